use Rattle.std.proofs.Common.{◌≡◌, take}
use Rattle.std.specs.Prelude.{fold}
use Rattle.std.specs.Int.{int_max}
use Rattle.bisect_node.specs.Steps.{number_at, number_in}
use Rattle.bisect_node.proofs.numbers.greatest_at.Given as goal

abbrev pub invariant-loop-letter : goal.invariant-loop-letter
invariant-loop-letter l = l.greatest ≡ fold (λ greatest x. int_max greatest (number_in x l.at)) (number_at l.told l.at)
    (take l.letter-index l.got)
