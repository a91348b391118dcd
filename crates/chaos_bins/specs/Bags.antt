-- Lists as bags, where order doesn't count, and items dealt out by number.
use Rattle.std.specs.Prelude.{◌≡◌, ℕ, zero, suc, ◌+◌, ◌≤◌, ◌<◌, ◌==◌, ℤ, Bool, cond, List, [], ◌∷◌, ◌++◌, count_by}
use Rattle.std.specs.List.{AllByRecursion}
use Rattle.std.proofs.Common.{ap, sym, ◌∙◌, arith, refl, inl, inr}
use Rattle.std.proofs.lemmas.Bool.{cases_lt}
use Rattle.chaos_dist.specs.Buckets.{bucket, buckets}
use Rattle.list_laws.specs.Counts.{first_counted, count_by-append}
use Rattle.list_laws.specs.Tests.{other_number, same_number}

-- of both lists as many pass each test
abbrev pub SameBag : {X : Type 0} → List X → List X → Type 0
SameBag {X} xs ys = (test : X → Bool) → count_by test xs ≡ count_by test ys

-- ---- items dealt out

-- each item has a number below n
abbrev pub AreDealt : {X : Type 0} → (X → ℕ) → ℕ → List X → Type 0
AreDealt key n xs = AllByRecursion (λ x. key x < n) xs

module _ {X : Type 0} (key : X → ℕ) (test : X → Bool) where
  empty : (a n : ℕ) → buckets key a n [] ≡ []
  empty a zero = refl
  empty a (suc n) = empty (a + 1) n

  -- an item that is in none of the buckets
  passed : (x : X) (xs : List X) (a n : ℕ) → key x < a → buckets key a n (x ∷ xs) ≡ buckets key a n xs
  passed x xs a zero low = refl
  passed x xs a (suc n) low =
      ap (λ b. cond b (x ∷ bucket key xs a) (bucket key xs a) ++ buckets key (a + 1) n (x ∷ xs))
      (other_number (key x) a (λ e. omega (arith, low, e)))
      ∙ ap (λ l. bucket key xs a ++ l) (passed x xs (a + 1) n (omega (arith, low)))

  -- and one that is in one of them
  one_more : (x : X) (xs : List X) (a n : ℕ) → a ≤ key x → key x < a + n
      → count_by test (buckets key a n (x ∷ xs)) ≡ cond (test x) 1 0 + count_by test (buckets key a n xs)
  one_more x xs a zero low high = absurd (omega (arith, low, high))
  one_more x xs a (suc n) low high =
      let here = bucket key xs a in
      let first = λ (b : Bool). count_by test (cond b (x ∷ here) here ++ buckets key (a + 1) n (x ∷ xs)) in
      let rest = count_by-append test here (buckets key (a + 1) n xs) in
      elim (cases_lt a (key x)) [
        | inl above ↦
            ap first (other_number (key x) a (λ e. omega (arith, above, e)))
            ∙ count_by-append test here (buckets key (a + 1) n (x ∷ xs))
            ∙ omega (arith, rest, one_more x xs (a + 1) n (omega (arith, above)) (omega (arith, high)))
        | inr under ↦
            let same : key x ≡ a = omega (arith, low, under) in
            ap first (ap (λ k. k == a) same ∙ same_number a)
            ∙ first_counted test x (here ++ buckets key (a + 1) n (x ∷ xs))
            ∙ ap (λ l. cond (test x) 1 0 + count_by test (here ++ l)) (passed x xs (a + 1) n (omega (arith, same)))
      ]

  pub counted : (n : ℕ) (xs : List X) → AreDealt key n xs → count_by test xs ≡ count_by test (buckets key 0 n xs)
  counted n [] all = sym (ap (count_by test) (empty 0 n))
  counted n (x ∷ xs) all =
      first_counted test x xs
      ∙ ap (λ k. cond (test x) 1 0 + k) (counted n xs all.1)
      ∙ sym (one_more x xs 0 n (omega arith) (omega (arith, all.0)))

pub bag_dealt : {X : Type 0} (key : X → ℕ) (n : ℕ) (xs : List X) → AreDealt key n xs → SameBag xs (buckets key 0 n xs)
bag_dealt key n xs all test = counted key test n xs all

-- items dealt out by number are, one list after another, the same items
abbrev pub DealtIsSame : Type 0
DealtIsSame = (key : ℤ × ℤ → ℕ) (n : ℕ) (xs : List (ℤ × ℤ)) → AreDealt key n xs → SameBag xs (buckets key 0 n xs)

pub dealt_is_same : DealtIsSame
dealt_is_same key n xs all = bag_dealt key n xs all
