-- How many elements of a list pass a test.
use Rattle.std.specs.Prelude.{◌≡◌, ℕ, ◌+◌, ◌≤◌, ◌==◌, ◌&&◌, Bool, true, false, cond, List, [], ◌∷◌, ◌++◌, length, map, filter, count_by}
use Rattle.std.specs.Prelude.{nat_lt}
use Rattle.std.specs.List.{AllByRecursion}
use Rattle.std.proofs.Common.{ap, sym, ◌∙◌, arith, refl}
use Rattle.std.proofs.lemmas.Bool.Decides.{nat_tests}
use Rattle.std.proofs.lemmas.List.Sums.{sum_by-cons, sum_by-append}

pub first_counted : {A : Type 0} (p : A → Bool) (x : A) (xs : List A) → count_by p (x ∷ xs) ≡ cond (p x) 1 0 + count_by p xs
first_counted p x xs = sum_by-cons (λ x. cond (p x) 1 0) x xs

one_le : (a b : Bool) → (a ≡ true → b ≡ true) → cond a 1 0 ≤ cond b 1 0
one_le true true h = omega arith
one_le true false h = absurd (no (h refl))
  where
    no : false ≡ true → ⊥
    no e = cc
one_le false true h = omega arith
one_le false false h = omega arith

pub count_by-grows : {A : Type 0} (p q : A → Bool) (xs : List A) → ((x : A) → p x ≡ true → q x ≡ true) → count_by p xs ≤ count_by q xs
count_by-grows p q [] h = omega arith
count_by-grows p q (x ∷ xs) h =
    omega (arith, first_counted p x xs, first_counted q x xs, one_le (p x) (q x) (h x), count_by-grows p q xs h)

pub count_by-none : {A : Type 0} (p : A → Bool) (xs : List A) → ((x : A) → p x ≡ false) → count_by p xs ≡ 0
count_by-none p [] h = refl
count_by-none p (x ∷ xs) h =
    first_counted p x xs ∙ ap (λ b. cond b 1 0 + count_by p xs) (h x) ∙ omega (arith, count_by-none p xs h)

pub count_by-all_fail : {A : Type 0} (p : A → Bool) (xs : List A) → AllByRecursion (λ x. p x ≡ false) xs → count_by p xs ≡ 0
count_by-all_fail p [] all = refl
count_by-all_fail p (x ∷ xs) all =
    first_counted p x xs ∙ ap (λ b. cond b 1 0 + count_by p xs) all.0 ∙ omega (arith, count_by-all_fail p xs all.1)

pub count_by-all : {A : Type 0} (p : A → Bool) (xs : List A) → AllByRecursion (λ x. p x ≡ true) xs → count_by p xs ≡ length xs
count_by-all p [] h = refl
count_by-all p (x ∷ xs) h =
    first_counted p x xs ∙ ap (λ b. cond b 1 0 + count_by p xs) h.0 ∙ omega (arith, count_by-all p xs h.1)

-- tests that agree on a list count the same in it
pub count_by-agree : {A : Type 0} (p q : A → Bool) (xs : List A) → AllByRecursion (λ x. p x ≡ q x) xs → count_by p xs ≡ count_by q xs
count_by-agree p q [] all = refl
count_by-agree p q (x ∷ xs) all =
    first_counted p x xs
    ∙ ap (λ b. cond b 1 0 + count_by p xs) all.0
    ∙ ap (λ n. cond (q x) 1 0 + n) (count_by-agree p q xs all.1)
    ∙ sym (first_counted q x xs)

pub count_by-same : {A : Type 0} (p q : A → Bool) (xs : List A) → ((x : A) → p x ≡ q x) → count_by p xs ≡ count_by q xs
count_by-same p q [] h = refl
count_by-same p q (x ∷ xs) h =
    first_counted p x xs
    ∙ ap (λ b. cond b 1 0 + count_by p xs) (h x)
    ∙ ap (λ n. cond (q x) 1 0 + n) (count_by-same p q xs h)
    ∙ sym (first_counted q x xs)

pub count_by-map : {A B : Type 0} (f : A → B) (test : B → Bool) (xs : List A) → count_by test (map f xs) ≡ count_by (λ x. test (f x)) xs
count_by-map f test [] = refl
count_by-map f test (x ∷ xs) =
    first_counted test (f x) (map f xs)
    ∙ ap (λ n. cond (test (f x)) 1 0 + n) (count_by-map f test xs)
    ∙ sym (first_counted (λ y. test (f y)) x xs)

kept_first : {A : Type 0} (b : Bool) (test : A → Bool) (x : A) (xs : List A) (n : ℕ) → count_by test xs ≡ n
    → count_by test (cond b (x ∷ xs) xs) ≡ cond (b && test x) 1 0 + n
kept_first true test x xs n e = first_counted test x xs ∙ ap (λ k. cond (test x) 1 0 + k) e
kept_first false test x xs n e = e ∙ omega arith

pub count_by-filter : {A : Type 0} (p test : A → Bool) (xs : List A) → count_by test (filter p xs) ≡ count_by (λ x. p x && test x) xs
count_by-filter p test [] = refl
count_by-filter p test (x ∷ xs) =
    kept_first (p x) test x (filter p xs) (count_by (λ y. p y && test y) xs) (count_by-filter p test xs)
    ∙ sym (first_counted (λ y. p y && test y) x xs)

pub count_by-append : {A : Type 0} (test : A → Bool) (xs ys : List A) → count_by test (xs ++ ys) ≡ count_by test xs + count_by test ys
count_by-append test xs ys = sum_by-append (λ x. cond (test x) 1 0) xs ys

below_or_here : (k v : ℕ) → cond (nat_lt k (v + 1)) 1 0 ≡ cond (nat_lt k v) 1 0 + cond (k == v) 1 0
below_or_here k v = grind (arith, nat_tests)

-- one higher: those that have just this key are counted too
pub count_by-next : {A : Type 0} (key : A → ℕ) (v : ℕ) (xs : List A)
    → count_by (λ x. nat_lt (key x) (v + 1)) xs ≡ count_by (λ x. nat_lt (key x) v) xs + count_by (λ x. key x == v) xs
count_by-next key v [] = refl
count_by-next key v (x ∷ xs) =
    omega (
      arith,
      first_counted (λ x. nat_lt (key x) (v + 1)) x xs,
      first_counted (λ x. nat_lt (key x) v) x xs,
      first_counted (λ x. key x == v) x xs,
      below_or_here (key x) v,
      count_by-next key v xs,
    )
