-- What tests of numbers and of two truths tell.
use Rattle.std.specs.Prelude.{◌≡◌, refl, ℕ, ◌==◌, ◌&&◌, Bool, true, false}
use Rattle.std.proofs.Common.{◌≢◌, ap, ◌∙◌, arith}
use Rattle.std.proofs.lemmas.Bool.Decides.{nat_tests}

pub same_number : (m : ℕ) → (m == m) ≡ true
same_number m = grind (arith, nat_tests)

pub other_number : (k p : ℕ) → k ≢ p → (k == p) ≡ false
other_number k p h = grind (arith, nat_tests)

pub same_when : (k p : ℕ) → (k == p) ≡ true → k ≡ p
same_when k p e = grind (arith, nat_tests)

pub both_true : (a b : Bool) → a ≡ true → b ≡ true → (a && b) ≡ true
both_true a b e f = ap (λ x. x && b) e ∙ f

pub left_true : (a b : Bool) → (a && b) ≡ true → a ≡ true
left_true true b e = refl
left_true false b e = e

pub right_true : (a b : Bool) → (a && b) ≡ true → b ≡ true
right_true true b e = e
right_true false b e = absurd (no e)
  where
    no : false ≡ true → ⊥
    no e = cc
