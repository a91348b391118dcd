-- How many of the numbers 1 to n pass a test, and which of them is the k-th.
use Rattle.std.specs.Prelude.{◌≡◌, refl, ℕ, zero, suc, ◌+◌, ◌-◌, ◌≤◌, ◌<◌, Bool, true, false, cond, if◌then◌else◌, List, [], ◌∷◌, ◌++◌}
use Rattle.std.specs.Prelude.{Some, length, map, filter, slice_get, unwrap_or, count_by}
use Rattle.std.specs.List.{range_with_len}
use Rattle.std.proofs.Common.{ap, sym, ◌∙◌, subst, arith, add-zero, add-one, inl, inr}
use Rattle.std.proofs.lemmas.Bool.{cases_lt}
use Rattle.std.proofs.lemmas.List.{map-append}
use Rattle.std.proofs.lemmas.List.Elements.{filter-append}
use Rattle.std.proofs.lemmas.List.Sums.{sum_by_push, length-filter}

-- how many of the numbers 1 to n pass the test
abbrev pub count_up_to : (ℕ → Bool) → ℕ → ℕ
count_up_to p zero = 0
count_up_to p (suc n) = count_up_to p n + (if p (suc n) then 1 else 0)

-- the numbers 1 to n
abbrev pub up_to : ℕ → List ℕ
up_to n = range_with_len 1 n

-- the numbers below n
abbrev pub below : ℕ → List ℕ
below n = range_with_len 0 n

-- ---- counts only grow

-- two tests that agree up to n count the same
pub count_up_to-same : (p q : ℕ → Bool) (n : ℕ) → ((h : ℕ) → 1 ≤ h → h ≤ n → p h ≡ q h) → count_up_to p n ≡ count_up_to q n
count_up_to-same p q zero same = refl
count_up_to-same p q (suc n) same =
    ap (λ c. c + cond (p (suc n)) 1 0) (count_up_to-same p q n (λ h low high. same h low (omega arith)))
    ∙ ap (λ t. count_up_to q n + cond t 1 0) (same (suc n) (omega arith) (omega arith))

pub one_at_most : (t : Bool) → cond t 1 0 ≤ 1
one_at_most true = omega arith
one_at_most false = omega arith

-- no more are counted than there are
pub count_up_to-le : (p : ℕ → Bool) (n : ℕ) → count_up_to p n ≤ n
count_up_to-le p zero = omega arith
count_up_to-le p (suc n) = omega (arith, count_up_to-le p n, one_at_most (p (suc n)))

-- the count up to m, and of the n numbers after it
pub count_up_to-plus : (p : ℕ → Bool) (m n : ℕ) → count_up_to p (m + n) ≡ count_up_to p m + count_up_to (λ h. p (m + h)) n
count_up_to-plus p m zero = ap (count_up_to p) (add-zero m) ∙ sym (add-zero (count_up_to p m))
count_up_to-plus p m (suc n) =
    let e : m + suc n ≡ suc (m + n) = omega arith in
    let last : count_up_to p (suc (m + n)) ≡ count_up_to p (m + n) + cond (p (m + suc n)) 1 0 =
    ap (λ k. count_up_to p (m + n) + cond (p k) 1 0) (sym e) in
    ap (count_up_to p) e ∙ last ∙ omega (arith, count_up_to-plus p m n)

pub count_up_to-grows : (p : ℕ → Bool) (m n : ℕ) → m ≤ n → count_up_to p m ≤ count_up_to p n
count_up_to-grows p m n h =
    let e : m + (n - m) ≡ n = omega arith in
    subst (λ k. count_up_to p m ≤ count_up_to p k) e (omega (arith, count_up_to-plus p m (n - m)))

-- a number that passes is counted
pub count_up_to-passes : (p : ℕ → Bool) (g n : ℕ) → 1 ≤ g → g ≤ n → p g ≡ true → count_up_to p (g - 1) < count_up_to p n
count_up_to-passes p zero n low high e = absurd (omega arith)
count_up_to-passes p (suc m) n low high e =
    let back : suc m - 1 ≡ m = omega arith in
    let one : count_up_to p (suc m) ≡ count_up_to p m + 1 = ap (λ t. count_up_to p m + cond t 1 0) e in
    rw back (omega (arith, count_up_to-grows p (suc m) n high, one))

-- two that pass, with as many before them, are one
pub count_up_to-only : (p : ℕ → Bool) (g h : ℕ) → 1 ≤ g → 1 ≤ h → p g ≡ true → p h ≡ true → count_up_to p (g - 1) ≡ count_up_to p (h - 1)
    → g ≡ h
count_up_to-only p g h some also e f same =
    elim (cases_lt g h) [
      | inl less ↦
          let before : count_up_to p (g - 1) < count_up_to p (h - 1) = count_up_to-passes p g (h - 1) some (omega arith) e in
          absurd (omega (arith, before, same))
      | inr more ↦ elim (cases_lt h g) [
        | inl less ↦
            let before : count_up_to p (h - 1) < count_up_to p (g - 1) = count_up_to-passes p h (g - 1) also (omega arith) f in
            absurd (omega (arith, before, same))
        | inr less ↦ omega arith
      ]
    ]

-- ---- the k-th that passes

-- for each k below the count there is a number that passes, with k that pass before it
pub record IsKth (p : ℕ → Bool) (n k g : ℕ) : Type 0 where
  pub from_one : 1 ≤ g
  pub within : g ≤ n
  pub passes : p g ≡ true
  pub before : count_up_to p (g - 1) ≡ k

is_kth_below : (p : ℕ → Bool) (n k g : ℕ) → IsKth p n k g → IsKth p (suc n) k g
is_kth_below p n k g h = record { from_one = h.from_one; within = omega (arith, h.within); passes = h.passes; before = h.before }

kth_at : (p : ℕ → Bool) (n k : ℕ) → ((k < count_up_to p n) → (g : ℕ) × IsKth p n k g) → (t : Bool) → p (suc n) ≡ t
    → k < count_up_to p n + cond t 1 0 → (g : ℕ) × IsKth p (suc n) k g
kth_at p n k rest true e h =
    elim (cases_lt k (count_up_to p n)) [
      | inl less ↦ let found = rest less in (found.0, is_kth_below p n k found.0 found.1)
      | inr more ↦
          let back : suc n - 1 ≡ n = omega arith in
          let same : count_up_to p n ≡ k = omega (arith, more, h) in
          (suc n, record { from_one = omega arith; within = omega arith; passes = e; before = ap (count_up_to p) back ∙ same })
    ]
kth_at p n k rest false e h =
    let less : k < count_up_to p n = omega (arith, h) in
    let found = rest less in
    (found.0, is_kth_below p n k found.0 found.1)

pub kth_up_to : (p : ℕ → Bool) (n k : ℕ) → k < count_up_to p n → (g : ℕ) × IsKth p n k g
kth_up_to p zero k h = absurd (omega arith)
kth_up_to p (suc n) k h = kth_at p n k (kth_up_to p n k) (p (suc n)) refl h

-- ---- the same as lists

range_last : (a n : ℕ) → range_with_len a (suc n) ≡ range_with_len a n ++ (a + n) ∷ []
range_last a zero = ap (λ k. k ∷ []) (sym (add-zero a))
range_last a (suc n) =
    let e : a + 1 + n ≡ a + suc n = omega arith in
    ap (λ l. a ∷ l) (range_last (a + 1) n) ∙ ap (λ k. a ∷ (range_with_len (a + 1) n ++ k ∷ [])) e

pub up_to-last : (n : ℕ) → up_to (suc n) ≡ up_to n ++ suc n ∷ []
up_to-last n = let e : 1 + n ≡ suc n = omega arith in range_last 1 n ∙ ap (λ k. up_to n ++ k ∷ []) e

pub below-last : (n : ℕ) → below (suc n) ≡ below n ++ n ∷ []
below-last n = let e : 0 + n ≡ n = omega arith in range_last 0 n ∙ ap (λ k. below n ++ k ∷ []) e

-- a count over the list of the numbers 1 to n
pub count_by-up_to : (p : ℕ → Bool) (n : ℕ) → count_by p (up_to n) ≡ count_up_to p n
count_by-up_to p zero = refl
count_by-up_to p (suc n) =
    ap (count_by p) (up_to-last n)
    ∙ sum_by_push (λ x. cond (p x) 1 0) (up_to n) (suc n)
    ∙ ap (λ k. k + cond (p (suc n)) 1 0) (count_by-up_to p n)

-- those of the numbers 1 to n that pass: one number more
up_to_kept : (p : ℕ → Bool) (n : ℕ) → filter p (up_to (suc n)) ≡ filter p (up_to n) ++ cond (p (suc n)) (suc n ∷ []) []
up_to_kept p n = ap (filter p) (up_to-last n) ∙ filter-append p (up_to n) (suc n ∷ [])

pub filter-up_to-same : (p q : ℕ → Bool) (n : ℕ) → ((h : ℕ) → 1 ≤ h → h ≤ n → p h ≡ q h) → filter p (up_to n) ≡ filter q (up_to n)
filter-up_to-same p q zero same = refl
filter-up_to-same p q (suc n) same =
    up_to_kept p n
    ∙ ap (λ l. l ++ cond (p (suc n)) (suc n ∷ []) []) (filter-up_to-same p q n (λ h low high. same h low (omega arith)))
    ∙ ap (λ b. filter q (up_to n) ++ cond b (suc n ∷ []) []) (same (suc n) (omega arith) (omega arith))
    ∙ sym (up_to_kept q n)

pub length-filter-up_to : (p : ℕ → Bool) (n : ℕ) → length (filter p (up_to n)) ≡ count_up_to p n
length-filter-up_to p n = length-filter p (up_to n) ∙ count_by-up_to p n

get_front : {A : Type 0} (xs ys : List A) (k : ℕ) → k < length xs → slice_get (xs ++ ys) k ≡ slice_get xs k
get_front [] ys k h = absurd (omega arith)
get_front (x ∷ xs) ys zero h = refl
get_front (x ∷ xs) ys (suc k) h = get_front xs ys k (less k (length xs) h)
  where
    less : (k n : ℕ) → suc k < suc n → k < n
    less k n h = omega arith

get_end : {A : Type 0} (xs : List A) (y : A) → slice_get (xs ++ y ∷ []) (length xs) ≡ Some y
get_end [] y = refl
get_end (x ∷ xs) y = get_end xs y

-- a number that passes stands in the list of them behind those before it
pub slice_get-filter-up_to : (p : ℕ → Bool) (n g : ℕ) → 1 ≤ g → g ≤ n → p g ≡ true
    → slice_get (filter p (up_to n)) (count_up_to p (g - 1)) ≡ Some g
slice_get-filter-up_to p zero g from_one within passes = absurd (omega arith)
slice_get-filter-up_to p (suc n) g from_one within passes =
    ap (λ l. slice_get l (count_up_to p (g - 1))) (up_to_kept p n) ∙ elim (cases_lt n g) [
      | inr low ↦
          let before : count_up_to p (g - 1) < length (filter p (up_to n)) =
          subst (λ k. count_up_to p (g - 1) < k) (sym (length-filter-up_to p n)) (count_up_to-passes p g n from_one low passes) in
          get_front (filter p (up_to n)) (cond (p (suc n)) (suc n ∷ []) []) (count_up_to p (g - 1)) before
          ∙ slice_get-filter-up_to p n g from_one low passes
      | inl high ↦
          let last : g ≡ suc n = omega arith in
          let back : g - 1 ≡ n = omega arith in
          let test : p (suc n) ≡ true = ap p (sym last) ∙ passes in
          ap (λ b. slice_get (filter p (up_to n) ++ cond b (suc n ∷ []) []) (count_up_to p (g - 1))) test
          ∙ ap (λ k. slice_get (filter p (up_to n) ++ suc n ∷ []) (count_up_to p k)) back
          ∙ ap (λ k. slice_get (filter p (up_to n) ++ suc n ∷ []) k) (sym (length-filter-up_to p n))
          ∙ get_end (filter p (up_to n)) (suc n)
          ∙ ap Some (sym last)
    ]

-- ---- lists by their places

-- one number more, gone through
pub map-below-one : {A : Type 0} (f : ℕ → A) (k : ℕ) (xs ys : List A) (x : A) → xs ≡ map f (below k) → x ≡ f k → ys ≡ xs ++ x ∷ []
    → ys ≡ map f (below (k + 1))
map-below-one {A} f k xs ys x before e more =
    more ∙ ap (λ (l : List A). l ++ x ∷ []) before ∙ ap (λ (y : A). map f (below k) ++ y ∷ []) e
    ∙ sym (ap (λ n. map f (below n)) (add-one k) ∙ ap (map f) (below-last k) ∙ map-append f (below k) (k ∷ []))

-- a list is what it has at each place
pub place_by : (d : ℕ) (xs : List ℕ) (a : ℕ) (get : ℕ → ℕ) → ((k : ℕ) → get (a + k) ≡ unwrap_or (slice_get xs k) d)
    → map get (range_with_len a (length xs)) ≡ xs
place_by d [] a get same = refl
place_by d (x ∷ xs) a get same =
    let first : get a ≡ x = ap get (let z : a ≡ a + 0 = omega arith in z) ∙ same 0 in
    ap (λ y. y ∷ map get (range_with_len (a + 1) (length xs))) first
    ∙ ap (λ ys. x ∷ ys) (place_by d xs (a + 1) get (λ k. ap get (let z : a + 1 + k ≡ a + suc k = omega arith in z) ∙ same (suc k)))
