-- There is one ascending order of a bag, and `sorted` and `sorted_by` are it.
use Rattle.std.specs.Prelude.{◌≡◌, ◌≢◌, ◌⊎◌, ℕ, ◌+◌, ℤ, pos, negsuc, Bool, true, false, cond, List, [], ◌∷◌, count_by, nat_le, int_le}
use Rattle.std.specs.List.{AllByRecursion}
use Rattle.std.specs.Ordering.{int_eq}
use Rattle.std.proofs.Common.{ap, sym, ◌∙◌, arith, refl, inl, inr}
use Rattle.std.proofs.lemmas.Bool.Decides.{Decides-int_eq, nat_tests, not_from_Decides}
use Rattle.chaos_bins.specs.Bags.{SameBag}
use Rattle.list_laws.specs.Counts.{first_counted, count_by-all_fail}
use Rattle.chaos_bins.specs.Bins.{inserted_by, pair_le, sorted, sorted_by}

-- each is at most all that follow
abbrev pub IsAscending : {X : Type 0} → (X → X → Bool) → List X → Type 0
IsAscending le [] = Unit {0}
IsAscending le (x ∷ xs) = AllByRecursion (λ y. le x y ≡ true) xs × IsAscending le xs

-- ---- one order

module _ {X : Type 0} (le : X → X → Bool)
    (itself : (x : X) → le x x ≡ true)
    (onward : (x y z : X) → le x y ≡ true → le y z ≡ true → le x z ≡ true)
    (alike : (x y : X) → le x y ≡ true → le y x ≡ true → x ≡ y) where
  opposite : true ≡ false → ⊥
  opposite e = cc

  -- what is above a number that isn't at most x, isn't either
  none_lower : (x y : X) (ys : List X) → le y x ≡ false → AllByRecursion (λ z. le y z ≡ true) ys → AllByRecursion (λ z. le z x ≡ false) ys
  none_lower x y [] e all = tt
  none_lower x y (z ∷ ys) e all = (by (le z x) refl, none_lower x y ys e all.1)
    where
      by : (b : Bool) → le z x ≡ b → le z x ≡ false
      by true f = absurd (opposite (sym (onward y z x all.0 f) ∙ e))
      by false f = f

  -- the first of an ascending list is at most each that the bag has
  first_least : (x y : X) (xs ys : List X) → AllByRecursion (λ z. le y z ≡ true) ys → SameBag (x ∷ xs) (y ∷ ys) → le y x ≡ true
  first_least x y xs ys all same = by (le y x) refl
    where
      test : X → Bool
      test z = le z x

      by : (b : Bool) → le y x ≡ b → le y x ≡ true
      by true e = e
      by false e =
          let none : count_by test (y ∷ ys) ≡ 0 = count_by-all_fail test (y ∷ ys) (e, none_lower x y ys e all) in
          let one : count_by test (x ∷ xs) ≡ 1 + count_by test xs =
          first_counted test x xs ∙ ap (λ b. cond b 1 0 + count_by test xs) (itself x) in
          absurd (omega (arith, none, one, same test))

  rest_same : (x y : X) (xs ys : List X) → x ≡ y → SameBag (x ∷ xs) (y ∷ ys) → SameBag xs ys
  rest_same x y xs ys e same test =
      let weight : ◌≡◌ {A = ℕ} (cond (test x) 1 0) (cond (test y) 1 0) = ap (λ z. cond (test z) 1 0) e in
      omega (arith, same test, first_counted test x xs, first_counted test y ys, weight)

  pub one_order : (xs ys : List X) → IsAscending le xs → IsAscending le ys → SameBag xs ys → xs ≡ ys
  one_order [] [] up also same = refl
  one_order [] (y ∷ ys) up also same = absurd (omega (arith, same (λ z. true), first_counted (λ z. true) y ys))
  one_order (x ∷ xs) [] up also same = absurd (omega (arith, same (λ z. true), first_counted (λ z. true) x xs))
  one_order (x ∷ xs) (y ∷ ys) up also same =
      let e = alike x y (first_least y x ys xs up.0 (λ test. sym (same test))) (first_least x y xs ys also.0 same) in
      ap (λ z. z ∷ xs) e ∙ ap (λ l. y ∷ l) (one_order xs ys up.1 also.1 (rest_same x y xs ys e same))

-- ---- numbers

nat_itself : (x : ℕ) → nat_le x x ≡ true
nat_itself x = grind (arith, nat_tests)

nat_onward : (x y z : ℕ) → nat_le x y ≡ true → nat_le y z ≡ true → nat_le x z ≡ true
nat_onward x y z e f = grind (arith, nat_tests)

nat_alike : (x y : ℕ) → nat_le x y ≡ true → nat_le y x ≡ true → x ≡ y
nat_alike x y e f = grind (arith, nat_tests)

not_true : {P : Type 0} → false ≡ true → P
not_true e = absurd (no e)
  where
    no : false ≡ true → ⊥
    no f = cc

int_itself : (x : ℤ) → int_le x x ≡ true
int_itself (pos a) = grind (arith, nat_tests)
int_itself (negsuc a) = grind (arith, nat_tests)

pub int_onward : (x y z : ℤ) → int_le x y ≡ true → int_le y z ≡ true → int_le x z ≡ true
int_onward (pos a) (pos b) (pos c) e f = grind (arith, nat_tests)
int_onward (pos a) (pos b) (negsuc c) e f = not_true f
int_onward (pos a) (negsuc b) z e f = not_true e
int_onward (negsuc a) (pos b) (pos c) e f = refl
int_onward (negsuc a) (pos b) (negsuc c) e f = not_true f
int_onward (negsuc a) (negsuc b) (pos c) e f = refl
int_onward (negsuc a) (negsuc b) (negsuc c) e f = grind (arith, nat_tests)

int_alike : (x y : ℤ) → int_le x y ≡ true → int_le y x ≡ true → x ≡ y
int_alike (pos a) (pos b) e f = let same : a ≡ b = grind (arith, nat_tests) in ap pos same
int_alike (pos a) (negsuc b) e f = not_true e
int_alike (negsuc a) (pos b) e f = not_true f
int_alike (negsuc a) (negsuc b) e f = let same : a ≡ b = grind (arith, nat_tests) in ap negsuc same

int_other : (x y : ℤ) → int_le x y ≡ false → int_le y x ≡ true
int_other (pos a) (pos b) e = grind (arith, nat_tests)
int_other (pos a) (negsuc b) e = refl
int_other (negsuc a) (pos b) e = not_true (sym e)
int_other (negsuc a) (negsuc b) e = grind (arith, nat_tests)

-- what is above a number that isn't at most z, isn't either
pub int_above : (x y z : ℤ) → int_le x z ≡ false → int_le x y ≡ true → int_le y z ≡ false
int_above x y z e f = by (int_le y z) refl
  where
    by : (b : Bool) → int_le y z ≡ b → int_le y z ≡ false
    by true g = not_true (sym e ∙ int_onward x y z f g)
    by false g = g

-- ---- sorted

module _ {X : Type 0} (le : X → X → Bool) where
  inserted_same : (v : X) (ws : List X) → SameBag (v ∷ ws) (inserted_by le v ws)
  inserted_same v [] test = refl
  inserted_same v (w ∷ ws) test = by (le v w) (inserted_same v ws test)
    where
      by : (b : Bool) → count_by test (v ∷ ws) ≡ count_by test (inserted_by le v ws)
          → count_by test (v ∷ w ∷ ws) ≡ count_by test (cond b (v ∷ w ∷ ws) (w ∷ inserted_by le v ws))
      by true e = refl
      by false e =
          omega (
            arith,
            e,
            first_counted test v (w ∷ ws),
            first_counted test w ws,
            first_counted test v ws,
            first_counted test w (inserted_by le v ws),
          )

  pub sorted_by_same : (xs : List X) → SameBag xs (sorted_by le xs)
  sorted_by_same [] test = refl
  sorted_by_same (v ∷ xs) test =
      omega (
        arith,
        sorted_by_same xs test,
        inserted_same v (sorted_by le xs) test,
        first_counted test v xs,
        first_counted test v (sorted_by le xs),
      )

module _ {X : Type 0} (le : X → X → Bool)
    (onward : (x y z : X) → le x y ≡ true → le y z ≡ true → le x z ≡ true)
    (other : (x y : X) → le x y ≡ false → le y x ≡ true) where
  all_inserted : (P : X → Type 0) (v : X) (ws : List X) → P v → AllByRecursion P ws → AllByRecursion P (inserted_by le v ws)
  all_inserted P v [] p all = (p, tt)
  all_inserted P v (w ∷ ws) p all = by (le v w) (all_inserted P v ws p all.1)
    where
      by : (b : Bool) → AllByRecursion P (inserted_by le v ws) → AllByRecursion P (cond b (v ∷ w ∷ ws) (w ∷ inserted_by le v ws))
      by true rest = (p, all)
      by false rest = (all.0, rest)

  all_above : (v w : X) (ws : List X) → le v w ≡ true → AllByRecursion (λ z. le w z ≡ true) ws → AllByRecursion (λ z. le v z ≡ true) ws
  all_above v w [] e all = tt
  all_above v w (z ∷ ws) e all = (onward v w z e all.0, all_above v w ws e all.1)

  inserted_ascends : (v : X) (ws : List X) → IsAscending le ws → IsAscending le (inserted_by le v ws)
  inserted_ascends v [] up = (tt, tt)
  inserted_ascends v (w ∷ ws) up = by (le v w) refl (inserted_ascends v ws up.1)
    where
      by : (b : Bool) → le v w ≡ b → IsAscending le (inserted_by le v ws) → IsAscending le (cond b (v ∷ w ∷ ws) (w ∷ inserted_by le v ws))
      by true e rest = ((e, all_above v w ws e up.0), up)
      by false e rest = (all_inserted (λ z. le w z ≡ true) v ws (other v w e) up.0, rest)

  pub sorted_by_ascends : (xs : List X) → IsAscending le (sorted_by le xs)
  sorted_by_ascends [] = tt
  sorted_by_ascends (v ∷ xs) = inserted_ascends v (sorted_by le xs) (sorted_by_ascends xs)

-- ---- pairs, by the first and then by the second

pair_cases : (x y : ℤ × ℤ) → ((x.0 ≡ y.0) × (pair_le x y ≡ int_le x.1 y.1)) ⊎ ((x.0 ≢ y.0) × (pair_le x y ≡ int_le x.0 y.0))
pair_cases x y = by (int_eq x.0 y.0) refl
  where
    by : (b : Bool) → int_eq x.0 y.0 ≡ b
        → ((x.0 ≡ y.0) × (pair_le x y ≡ int_le x.1 y.1)) ⊎ ((x.0 ≢ y.0) × (pair_le x y ≡ int_le x.0 y.0))
    by true e = inl ((Decides-int_eq x.0 y.0).0 e, ap (λ c. cond c (int_le x.1 y.1) (int_le x.0 y.0)) e)
    by false e =
        inr (not_from_Decides (int_eq x.0 y.0) (Decides-int_eq x.0 y.0) e, ap (λ c. cond c (int_le x.1 y.1) (int_le x.0 y.0)) e)

pub int_same : (a b : ℤ) → a ≡ b → int_le a b ≡ true
int_same a b e = ap (int_le a) (sym e) ∙ int_itself a

-- what the order of pairs says of their parts
pub pair_first : (x y : ℤ × ℤ) → pair_le x y ≡ true → int_le x.0 y.0 ≡ true
pair_first x y e = elim (pair_cases x y) [ inl same ↦ int_same x.0 y.0 same.0 | inr apart ↦ sym apart.1 ∙ e ]

pub pair_second : (x y : ℤ × ℤ) → pair_le x y ≡ true → x.0 ≡ y.0 → int_le x.1 y.1 ≡ true
pair_second x y e f = elim (pair_cases x y) [ inl same ↦ sym same.1 ∙ e | inr apart ↦ absurd (apart.0 f) ]

pub pair_from : (x y : ℤ × ℤ) → int_le x.0 y.0 ≡ true → (x.0 ≡ y.0 → int_le x.1 y.1 ≡ true) → pair_le x y ≡ true
pair_from x y e f = elim (pair_cases x y) [ inl same ↦ same.1 ∙ f same.0 | inr apart ↦ apart.1 ∙ e ]

pair_itself : (x : ℤ × ℤ) → pair_le x x ≡ true
pair_itself x = pair_from x x (int_itself x.0) (λ e. int_itself x.1)

pair_onward : (x y z : ℤ × ℤ) → pair_le x y ≡ true → pair_le y z ≡ true → pair_le x z ≡ true
pair_onward x y z e f =
    pair_from x z (int_onward x.0 y.0 z.0 (pair_first x y e) (pair_first y z f))
    (λ same.
    let near : x.0 ≡ y.0 = int_alike x.0 y.0 (pair_first x y e) (ap (int_le y.0) same ∙ pair_first y z f) in
    int_onward x.1 y.1 z.1 (pair_second x y e near) (pair_second y z f (sym near ∙ same)))

pair_alike : (x y : ℤ × ℤ) → pair_le x y ≡ true → pair_le y x ≡ true → x ≡ y
pair_alike x y e f =
    let first : x.0 ≡ y.0 = int_alike x.0 y.0 (pair_first x y e) (pair_first y x f) in
    let second : x.1 ≡ y.1 = int_alike x.1 y.1 (pair_second x y e first) (pair_second y x f (sym first)) in
    ap (λ (a : ℤ). (a, x.1)) first ∙ ap (λ (b : ℤ). (y.0, b)) second

pair_other : (x y : ℤ × ℤ) → pair_le x y ≡ false → pair_le y x ≡ true
pair_other x y e = elim (pair_cases x y) [
  | inl same ↦ pair_from y x (int_same y.0 x.0 (sym same.0)) (λ f. int_other x.1 y.1 (sym same.1 ∙ e))
  | inr apart ↦ pair_from y x (int_other x.0 y.0 (sym apart.1 ∙ e)) (λ f. absurd (apart.0 (sym f)))
]

-- ---- what the law function says

-- two ascending lists of values that are the same bag are one
abbrev pub OneOrderOfValues : Type 0
OneOrderOfValues = (xs ys : List ℤ) → IsAscending int_le xs → IsAscending int_le ys → SameBag xs ys → xs ≡ ys

pub one_order_of_values : OneOrderOfValues
one_order_of_values = one_order int_le int_itself int_onward int_alike

-- and so are two of natural numbers
abbrev pub OneOrderOfKeys : Type 0
OneOrderOfKeys = (xs ys : List ℕ) → IsAscending nat_le xs → IsAscending nat_le ys → SameBag xs ys → xs ≡ ys

pub one_order_of_keys : OneOrderOfKeys
one_order_of_keys = one_order nat_le nat_itself nat_onward nat_alike

-- a list and its sorted values are one bag
abbrev pub SortedIsSame : Type 0
SortedIsSame = (values : List ℤ) → SameBag values (sorted values)

pub sorted_is_same : SortedIsSame
sorted_is_same = sorted_by_same int_le

abbrev pub SortedAscends : Type 0
SortedAscends = (values : List ℤ) → IsAscending int_le (sorted values)

pub sorted_ascends : SortedAscends
sorted_ascends = sorted_by_ascends int_le int_onward int_other

-- so an ascending list of a bag's values is its sorted values
abbrev pub SortedIsOnly : Type 0
SortedIsOnly = (values xs : List ℤ) → IsAscending int_le xs → SameBag values xs → xs ≡ sorted values

pub sorted_is_only : SortedIsOnly
sorted_is_only values xs up same =
    one_order_of_values xs (sorted values) up (sorted_ascends values) (λ test. sym (same test) ∙ sorted_is_same values test)

-- the same of pairs
abbrev pub PairsAreSorted : Type 0
PairsAreSorted = (pairs : List (ℤ × ℤ)) → SameBag pairs (sorted_by pair_le pairs) × IsAscending pair_le (sorted_by pair_le pairs)

pub pairs_are_sorted : PairsAreSorted
pairs_are_sorted pairs = (sorted_by_same pair_le pairs, sorted_by_ascends pair_le pair_onward pair_other pairs)

abbrev pub SortedPairsAreOnly : Type 0
SortedPairsAreOnly = (pairs xs : List (ℤ × ℤ)) → IsAscending pair_le xs → SameBag pairs xs → xs ≡ sorted_by pair_le pairs

pub sorted_pairs_are_only : SortedPairsAreOnly
sorted_pairs_are_only pairs xs up same =
    one_order pair_le pair_itself pair_onward pair_alike xs (sorted_by pair_le pairs) up (pairs_are_sorted pairs).1
    (λ test. sym (same test) ∙ (pairs_are_sorted pairs).0 test)
