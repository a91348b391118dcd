use Rattle.std.proofs.Common.{◌≡◌, take}
use Rattle.std.specs.Prelude.{fold}
use Rattle.std.specs.Int.{int_min}
use Rattle.bisect_node.specs.Steps.{number_at, number_in}
use Rattle.bisect_node.proofs.numbers.least_at.Given as goal

abbrev pub invariant-loop-letter : goal.invariant-loop-letter
invariant-loop-letter l = l.least ≡ fold (λ least x. int_min least (number_in x l.at)) (number_at l.told l.at) (take l.letter-index l.got)
