-- Choices by whether a node is node 0.
use Rattle.std.specs.Prelude.{◌≡◌, ◌≢◌, ℕ, ◌==◌, if◌then◌else◌}
use Rattle.std.proofs.Common.{arith}
use Rattle.std.proofs.lemmas.Bool.Decides.{nat_tests}

pub first_is : {X : Type 0} (me : ℕ) (x y : X) → me ≡ 0 → (if me == 0 then x else y) ≡ x
first_is me x y e = grind (arith, nat_tests)

pub first_not : {X : Type 0} (me : ℕ) (x y : X) → me ≢ 0 → (if me == 0 then x else y) ≡ y
first_not me x y e = grind (arith, nat_tests)
