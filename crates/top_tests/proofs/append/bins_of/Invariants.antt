use Rattle.std.proofs.Common.{◌≤ℤ◌, pos}
use Rattle.std.specs.Prelude.{All}
use Rattle.top_tests.proofs.append.bins_of.Given as goal

abbrev pub invariant-loop-word : goal.invariant-loop-word
invariant-loop-word l = All (λ b. (pos 1 ≤ℤ b) × (b ≤ℤ pos l.bins)) l.numbers
