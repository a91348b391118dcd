-- The node that most often is among the owners is among them.
use Rattle.std.specs.Prelude.{◌≡◌, refl, ℕ, zero, suc, ◌+◌, ◌≤◌, ◌<◌, ◌==◌, nat_le, Bool, true, false, ◌&&◌, ◌||◌, cond, List, [], ◌∷◌}
use Rattle.std.specs.Prelude.{find}
use Rattle.std.specs.Prelude.{unwrap_or, count_by, map, length, Some}
use Rattle.list_laws.specs.Tests.{same_when}
use Rattle.std.specs.List.{AllByRecursion, list_all, list_any, range_with_len}
use Rattle.std.proofs.Common.{ap, sym, ◌∙◌, subst, arith, inl, inr}
use Rattle.std.proofs.lemmas.Bool.{cases_lt}
use Rattle.std.proofs.lemmas.Bool.Decides.{nat_tests}
use Rattle.std.proofs.lemmas.List.Sums.{sum_by-cons}
use Rattle.chaos_dist.specs.Homes.{is_most, most_of}

-- a number that none exceeds
record IsGreatest (count : ℕ → ℕ) (n b : ℕ) : Type 0 where
  inside : b < n
  none_more : (m : ℕ) → m < n → count m ≤ count b

some_greatest : (count : ℕ → ℕ) (n : ℕ) → (b : ℕ) × IsGreatest count (suc n) b
some_greatest count zero = (
  0,
  record {
    inside = omega arith;
    none_more = λ m low. let same : m ≡ 0 = omega (arith, low) in
        subst (λ k. count k ≤ count 0) (sym same) (omega arith);
  },
)
some_greatest count (suc n) =
    let rest = some_greatest count n in
    elim (cases_lt (count rest.0) (count (suc n))) [
      | inl less ↦ (
        suc n,
        record {
          inside = omega arith;
          none_more = λ m low. elim (cases_lt m (suc n)) [
            | inl below ↦ omega (arith, rest.1.none_more m below, less)
            | inr last ↦ let same : m ≡ suc n = omega (arith, low, last) in subst (λ k. count k ≤ count (suc n)) (sym same) (omega arith)
          ];
        },
      )
      | inr more ↦ (
        rest.0,
        record {
          inside = omega (arith, rest.1.inside);
          none_more = λ m low. elim (cases_lt m (suc n)) [
            | inl below ↦ rest.1.none_more m below
            | inr last ↦ let same : m ≡ suc n = omega (arith, low, last) in subst (λ k. count k ≤ count rest.0) (sym same) more
          ];
        },
      )
    ]

all_range : (q : ℕ → Bool) (a n : ℕ) → ((m : ℕ) → a ≤ m → m < a + n → q m ≡ true) → list_all q (range_with_len a n) ≡ true
all_range q a zero each = refl
all_range q a (suc n) each =
    ap (λ t. t && list_all q (range_with_len (a + 1) n)) (each a (omega arith) (omega arith))
    ∙ all_range q (a + 1) n (λ m from to. each m (omega arith) (omega arith))

one_of : (q : ℕ → Bool) (a n b : ℕ) → a ≤ b → b < a + n → list_all q (range_with_len a n) ≡ true → q b ≡ true
one_of q a zero b low high all = absurd (omega (arith, low, high))
one_of q a (suc n) b low high all =
    elim (cases_lt a b) [
      | inl less ↦ one_of q (a + 1) n b (omega (arith, less)) (omega (arith, high)) (second (q a) _ all)
      | inr more ↦ let same : a ≡ b = omega (arith, low, more) in subst (λ k. q k ≡ true) same (first (q a) _ all)
    ]
  where
    first : (s t : Bool) → (s && t) ≡ true → s ≡ true
    first true t e = refl
    first false t e = e

    second : (s t : Bool) → (s && t) ≡ true → t ≡ true
    second true t e = e
    second false t e = cc

-- what is found passes, where some number passes
found_passes : (p : ℕ → Bool) (a n b : ℕ) → a ≤ b → b < a + n → p b ≡ true → p (unwrap_or (find p (range_with_len a n)) 0) ≡ true
found_passes p a zero b low high e = absurd (omega (arith, low, high))
found_passes p a (suc n) b low high e = by (p a) refl (λ apart. found_passes p (a + 1) n b apart (omega (arith, high)) e)
  where
    by : (t : Bool) → p a ≡ t → (a + 1 ≤ b → p (unwrap_or (find p (range_with_len (a + 1) n)) 0) ≡ true)
        → p (unwrap_or (cond t (Some a) (find p (range_with_len (a + 1) n))) 0) ≡ true
    by true is rest = is
    by false is rest =
        let apart : a + 1 ≤ b = elim (cases_lt a b) [
          | inl less ↦ omega (arith, less)
          | inr more ↦ let same : b ≡ a = omega (arith, low, more) in absurd (let no : true ≡ false = sym e ∙ ap p same ∙ is in cc)
        ] in
        rest apart

counted : (m : ℕ) (owners : List ℕ) → 1 ≤ count_by (λ o. o == m) owners → list_any (λ o. o == m) owners ≡ true
counted m [] h = absurd (omega (arith, h))
counted m (x ∷ xs) h = by (x == m) (subst (λ n. 1 ≤ n) (sum_by-cons (λ o. cond (o == m) 1 0) x xs) h) (counted m xs)
  where
    by : (b : Bool) → 1 ≤ cond b 1 0 + count_by (λ o. o == m) xs → (1 ≤ count_by (λ o. o == m) xs → list_any (λ o. o == m) xs ≡ true)
        → (b || list_any (λ o. o == m) xs) ≡ true
    by true k rest = refl
    by false k rest = rest (omega (arith, k))

itself : (n : ℕ) → (n == n) ≡ true
itself n = grind (arith, nat_tests)

le_is : (x y : ℕ) → nat_le x y ≡ true → x ≤ y
le_is x y e = grind (arith, nat_tests, e)

is_le : (x y : ℕ) → x ≤ y → nat_le x y ≡ true
is_le x y h = grind (arith, nat_tests, h)

-- the node that most often is among the owners is among them
pub most_reaches : (nodes first : ℕ) (owners : List ℕ) → first < nodes
    → list_any (λ o. o == most_of nodes (first ∷ owners)) (first ∷ owners) ≡ true
most_reaches zero first owners h = absurd (omega (arith, h))
most_reaches (suc n) first owners h =
    let all = first ∷ owners in
    let count = λ (m : ℕ). count_by (λ o. o == m) all in
    let b = some_greatest count n in
    let passes : is_most (suc n) all b.0 ≡ true = all_range (λ m. nat_le (count m) (count b.0)) 0 (suc n)
    (λ m from to. is_le (count m) (count b.0) (b.1.none_more m (omega (arith, to)))) in
    let home = most_of (suc n) all in
    let is : is_most (suc n) all home ≡ true = found_passes (is_most (suc n) all) 0 (suc n) b.0 (omega arith) (let i = b.1.inside in
    omega (arith, i)) passes in
    let most : count first ≤ count home = le_is (count first) (count home) (one_of (λ m. nat_le (count m) (count home)) 0 (suc n) first
    (omega arith) (omega (arith, h)) is) in
    let here : 1 ≤ count first =
    subst (λ k. 1 ≤ k) (sym (sum_by-cons (λ o. cond (o == first) 1 0) first owners
    ∙ ap (λ t. cond t 1 0 + count_by (λ o. o == first) owners) (itself first))) (omega arith) in
    counted home all (omega (arith, most, here))

-- ---- a section's home by most

any-map : {A : Type 0} (f : A → ℕ) (m : ℕ) (xs : List A) → list_any (λ o. o == m) (map f xs) ≡ list_any (λ x. f x == m) xs
any-map f m [] = refl
any-map f m (x ∷ xs) = ap (λ b. (f x == m) || b) (any-map f m xs)

-- where this node owns most of what is reached, it owns some of it
pub some_owned : {A : Type 0} (f : A → ℕ) (nodes me : ℕ) (xs : List A) → 1 ≤ length xs → AllByRecursion (λ x. f x < nodes) xs
    → (most_of nodes (map f xs) == me) ≡ true → list_any (λ x. f x == me) xs ≡ true
some_owned f nodes me [] some within e = absurd (omega arith)
some_owned f nodes me (x ∷ xs) some within e =
    let same : most_of nodes (map f (x ∷ xs)) ≡ me = same_when (most_of nodes (map f (x ∷ xs))) me e in
    sym (any-map f me (x ∷ xs))
    ∙ ap (λ m. list_any (λ o. o == m) (map f (x ∷ xs))) (sym same)
    ∙ most_reaches nodes (f x) (map f xs) within.0
