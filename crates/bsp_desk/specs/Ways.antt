-- Who sends to whom in a phase, and letters as they are wanted.
use Rattle.std.specs.Prelude.{◌≡◌, ℕ, ℤ, List, ◌==◌, ◌&&◌, not, Bool, true, false}
use Rattle.std.proofs.Common.{ap, arith}
use Rattle.std.proofs.lemmas.Bool.Decides.{nat_tests}
use Rattle.chaos_letter.specs.declared.letter.Letter.{Letter}
use Rattle.chaos_letter.specs.declared.wanted.Wanted.{Wanted}
use Rattle.bsp_desk.specs.declared.way.Way.{Way}
use Rattle.bsp_desk.specs.declared.way.Way.TheVariants.{ToAll, ToFirst}

abbrev pub sends : Way → ℕ → ℕ → Bool
sends ToAll p q = not (p == q)
sends ToFirst p q = not (p == q) && (q == 0)

self_is : (p : ℕ) → (p == p) ≡ true
self_is p = grind (arith, nat_tests)

-- no node sends to itself
pub not_to_self : (way : Way) (p : ℕ) → sends way p p ≡ false
not_to_self ToAll p = ap not (self_is p)
not_to_self ToFirst p = ap (λ b. not b && (p == 0)) (self_is p)

-- the letter of the kind, execution and site that are wanted, with these numbers
abbrev pub letter_as : Wanted → List ℤ → Letter
letter_as wanted numbers = record { kind = wanted.kind; execution = wanted.execution; site = wanted.site; numbers = numbers }
