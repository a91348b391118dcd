use Rattle.std.proofs.Common.{◌≡◌, take}
use Rattle.std.specs.Prelude.{◌+ℤ◌, fold}
use Rattle.std.specs.Int.{saturate_signed, w64}
use Rattle.bisect_node.specs.Steps.{number_at, number_in}
use Rattle.bisect_node.proofs.numbers.sum_at.Given as goal

abbrev pub invariant-loop-letter : goal.invariant-loop-letter
invariant-loop-letter l = l.sum ≡ fold (λ sum x. saturate_signed w64 (sum +ℤ number_in x l.at)) (number_at l.told l.at)
    (take l.letter-index l.got)
