-- What a node has of some elements, and what the others tell it of theirs, make what holds of all.
use Rattle.std.specs.Prelude.{◌≡◌, ℕ, zero, suc, ◌+◌, ◌≤◌, ◌<◌, ◌==◌, ◌^◌, ◌-◌, ℤ, pos, negsuc, Bool, true, false, not, cond, List, [], ◌∷◌}
use Rattle.std.specs.Prelude.{map, filter, fold, count_by}
use Rattle.std.specs.Int.{int_min, int_max}
use Rattle.std.specs.List.{range_with_len, AllByRecursion}
use Rattle.std.proofs.Common.{ap, sym, ◌∙◌, arith, refl, inl, inr}
use Rattle.std.proofs.lemmas.Bool.{cases_lt}
use Rattle.std.proofs.lemmas.Int.{clamps, ints}
use Rattle.list_laws.specs.Tests.{other_number, same_number}
use Rattle.chaos_dist.specs.Counting.{below}
use Rattle.chaos_cut.specs.Bisection.{coordinate, least_of, greatest_of}

-- each of these has a node below n, and those of one node
abbrev pub AreOwned : (ℕ → ℕ) → ℕ → List ℕ → Type 0
AreOwned owner n elements = AllByRecursion (λ g. owner g < n) elements

abbrev pub owned_by : (ℕ → ℕ) → List ℕ → ℕ → List ℕ
owned_by owner elements node = filter (λ g. owner g == node) elements

-- the nodes below n but one, ascending
abbrev pub others : ℕ → ℕ → List ℕ
others n me = filter (λ q. not (q == me)) (below n)

-- ---- any operation that doesn't mind order

module _ {M : Type 0} (op : M → M → M) (unit : M)
    (assoc : (a b c : M) → op (op a b) c ≡ op a (op b c))
    (comm : (a b : M) → op a b ≡ op b a)
    (same : op unit unit ≡ unit) where
  abbrev total : List M → M
  total [] = unit
  total (x ∷ xs) = op x (total xs)

  swapped : (a b c : M) → op a (op b c) ≡ op b (op a c)
  swapped a b c = sym (assoc a b c) ∙ ap (λ z. op z c) (comm a b) ∙ assoc b a c

  -- a total has the unit in it
  has_unit : (xs : List M) → op unit (total xs) ≡ total xs
  has_unit [] = same
  has_unit (x ∷ xs) = swapped unit x (total xs) ∙ ap (op x) (has_unit xs)

  unit_aside : (a x : M) → op (op a unit) x ≡ op (op a x) unit
  unit_aside a x = assoc a unit x ∙ ap (op a) (comm unit x) ∙ sym (assoc a x unit)

  fold_total : (a : M) (xs : List M) → fold op (op a unit) xs ≡ op a (total xs)
  fold_total a [] = refl
  fold_total a (x ∷ xs) = ap (λ z. fold op z xs) (unit_aside a x) ∙ fold_total (op a x) xs ∙ assoc a x (total xs)

  -- one more at k
  abbrev more_at : (ℕ → M) → ℕ → M → ℕ → M
  more_at m k y p = cond (k == p) (op y (m p)) (m p)

  untouched : (m : ℕ → M) (k : ℕ) (y : M) (a n : ℕ) → k < a
      → total (map (more_at m k y) (range_with_len a n)) ≡ total (map m (range_with_len a n))
  untouched m k y a zero under = refl
  untouched m k y a (suc n) under =
      ap (λ b. op (cond b (op y (m a)) (m a)) (total (map (more_at m k y) (range_with_len (a + 1) n))))
      (other_number k a (λ e. omega (arith, under, e)))
      ∙ ap (op (m a)) (untouched m k y (a + 1) n (omega (arith, under)))

  added : (m : ℕ → M) (k : ℕ) (y : M) (a n : ℕ) → a ≤ k → k < a + n
      → total (map (more_at m k y) (range_with_len a n)) ≡ op y (total (map m (range_with_len a n)))
  added m k y a zero low high = absurd (omega arith)
  added m k y a (suc n) low high =
      let rest = total (map (more_at m k y) (range_with_len (a + 1) n)) in
      elim (cases_lt a k) [
        | inl above ↦
            ap (λ b. op (cond b (op y (m a)) (m a)) rest) (other_number k a (λ e. omega (arith, above, e)))
            ∙ ap (op (m a)) (added m k y (a + 1) n (omega (arith, above)) (omega (arith, high)))
            ∙ swapped (m a) y (total (map m (range_with_len (a + 1) n)))
        | inr under ↦
            let here : k ≡ a = omega (arith, under, low) in
            ap (λ b. op (cond b (op y (m a)) (m a)) rest) (ap (λ z. z == a) here ∙ same_number a)
            ∙ ap (op (op y (m a))) (untouched m k y (a + 1) n (omega (arith, here)))
            ∙ assoc y (m a) (total (map m (range_with_len (a + 1) n)))
      ]

  -- the numbers from a on but one
  abbrev but : ℕ → ℕ → ℕ → List ℕ
  but p a n = filter (λ q. not (q == p)) (range_with_len a n)

  kept_above : (p a n : ℕ) → p < a → but p a n ≡ range_with_len a n
  kept_above p a zero under = refl
  kept_above p a (suc n) under =
      ap (λ b. cond (not b) (a ∷ but p (a + 1) n) (but p (a + 1) n)) (other_number a p (λ e. omega (arith, under, e)))
      ∙ ap (λ l. a ∷ l) (kept_above p (a + 1) n (omega (arith, under)))

  -- one of them first
  one_out : (m : ℕ → M) (p a n : ℕ) → a ≤ p → p < a + n → op (m p) (total (map m (but p a n))) ≡ total (map m (range_with_len a n))
  one_out m p a zero low high = absurd (omega arith)
  one_out m p a (suc n) low high =
      let first = λ (b : Bool). op (m p) (total (map m (cond (not b) (a ∷ but p (a + 1) n) (but p (a + 1) n)))) in
      elim (cases_lt a p) [
        | inl above ↦
            ap first (other_number a p (λ e. omega (arith, above, e)))
            ∙ swapped (m p) (m a) (total (map m (but p (a + 1) n)))
            ∙ ap (op (m a)) (one_out m p (a + 1) n (omega (arith, above)) (omega (arith, high)))
        | inr under ↦
            let here : a ≡ p = omega (arith, under, low) in
            ap first (ap (λ z. z == p) here ∙ same_number p)
            ∙ ap (λ l. op (m p) (total (map m l))) (kept_above p (a + 1) n (omega (arith, here)))
            ∙ ap (λ z. op (m z) (total (map m (range_with_len (a + 1) n)))) (sym here)
      ]

  map_same : (f g : ℕ → M) (a n : ℕ) → ((p : ℕ) → f p ≡ g p) → total (map f (range_with_len a n)) ≡ total (map g (range_with_len a n))
  map_same f g a zero agree = refl
  map_same f g a (suc n) agree =
      ap (λ z. op z (total (map f (range_with_len (a + 1) n)))) (agree a) ∙ ap (op (g a)) (map_same f g (a + 1) n agree)

  nothing : (a n : ℕ) → total (map (λ (p : ℕ). unit) (range_with_len a n)) ≡ unit
  nothing a zero = refl
  nothing a (suc n) = ap (op unit) (nothing (a + 1) n) ∙ same

  -- ---- elements and their nodes

  module _ (f : ℕ → M) (owner : ℕ → ℕ) where
    -- the total over some elements, from the unit on
    abbrev measure : List ℕ → M
    measure xs = fold (λ a g. op a (f g)) unit xs

    folded : (a : M) (xs : List ℕ) → fold (λ b g. op b (f g)) (op a unit) xs ≡ op a (total (map f xs))
    folded a [] = refl
    folded a (x ∷ xs) =
        ap (λ z. fold (λ b g. op b (f g)) z xs) (unit_aside a (f x)) ∙ folded (op a (f x)) xs ∙ assoc a (f x) (total (map f xs))

    measured : (xs : List ℕ) → measure xs ≡ total (map f xs)
    measured xs = ap (λ z. fold (λ b g. op b (f g)) z xs) (sym same) ∙ folded unit xs ∙ has_unit (map f xs)

    one_first : (b : Bool) (x : ℕ) (xs : List ℕ)
        → total (map f (cond b (x ∷ xs) xs)) ≡ cond b (op (f x) (total (map f xs))) (total (map f xs))
    one_first true x xs = refl
    one_first false x xs = refl

    by_node : (n : ℕ) (xs : List ℕ) → AreOwned owner n xs
        → total (map (λ p. total (map f (owned_by owner xs p))) (range_with_len 0 n)) ≡ total (map f xs)
    by_node n [] all = nothing 0 n
    by_node n (x ∷ xs) all =
        let each = λ (p : ℕ). total (map f (owned_by owner xs p)) in
        map_same (λ p. total (map f (owned_by owner (x ∷ xs) p))) (more_at each (owner x) (f x)) 0 n
        (λ p. one_first (owner x == p) x (owned_by owner xs p))
        ∙ added each (owner x) (f x) 0 n (omega arith) (omega (arith, all.0))
        ∙ ap (op (f x)) (by_node n xs all.1)

    pub told_together : (n me : ℕ) (xs : List ℕ) → me < n → AreOwned owner n xs
        → fold op (measure (owned_by owner xs me)) (map (λ q. measure (owned_by owner xs q)) (others n me)) ≡ measure xs
    told_together n me xs less owned =
        let each = λ (q : ℕ). measure (owned_by owner xs q) in
        let own = measured (owned_by owner xs me) in
        let has : op (each me) unit ≡ each me =
        comm (each me) unit ∙ ap (op unit) own ∙ has_unit (map f (owned_by owner xs me)) ∙ sym own in
        ap (λ z. fold op z (map each (others n me))) (sym has)
        ∙ fold_total (each me) (map each (others n me))
        ∙ one_out each me 0 n (omega arith) (omega (arith, less))
        ∙ map_same each (λ q. total (map f (owned_by owner xs q))) 0 n (λ q. measured (owned_by owner xs q))
        ∙ by_node n xs owned
        ∙ sym (measured xs)

-- ---- what the law function says

-- how many pass a test: a node's own count and those of the others, added up
abbrev pub CountsAddUp : Type 0
CountsAddUp =
    (owner : ℕ → ℕ) (test : ℕ → Bool) (n me : ℕ) (elements : List ℕ) → me < n → AreOwned owner n elements
    → fold (λ a b. a + b) (count_by test (owned_by owner elements me)) (map (λ q. count_by test (owned_by owner elements q)) (others n me))
    ≡ count_by test elements

plus_assoc : (a b c : ℕ) → a + b + c ≡ a + (b + c)
plus_assoc a b c = omega arith

plus_comm : (a b : ℕ) → a + b ≡ b + a
plus_comm a b = omega arith

pub counts_add_up : CountsAddUp
counts_add_up owner test n me elements less owned =
    told_together (λ (a b : ℕ). a + b) 0 plus_assoc plus_comm refl (λ g. cond (test g) 1 0) owner n me elements less owned

-- what an operation makes of a node's own coordinate of a kind and of those of the others is that of all
abbrev pub IsTold : (ℤ → ℤ → ℤ) → (List ℤ → List ℕ → ℤ) → Type 0
IsTold op of =
    (axis : List ℤ) (owner : ℕ → ℕ) (n me : ℕ) (elements : List ℕ) → me < n → AreOwned owner n elements
    → fold op (of axis (owned_by owner elements me)) (map (λ q. of axis (owned_by owner elements q)) (others n me)) ≡ of axis elements

-- the least coordinate, and the greatest
abbrev pub LeastIsTold : Type 0
LeastIsTold = IsTold int_min least_of

abbrev pub GreatestIsTold : Type 0
GreatestIsTold = IsTold int_max greatest_of

pub least_is_told : LeastIsTold
least_is_told axis =
    told_together int_min (pos (2 ^ 63 - 1)) (λ a b c. omega (arith, ints, clamps)) (λ a b. omega (arith, ints, clamps)) refl
    (coordinate axis)

pub greatest_is_told : GreatestIsTold
greatest_is_told axis =
    told_together int_max (negsuc (2 ^ 63 - 1)) (λ a b c. omega (arith, ints, clamps)) (λ a b. omega (arith, ints, clamps)) refl
    (coordinate axis)
