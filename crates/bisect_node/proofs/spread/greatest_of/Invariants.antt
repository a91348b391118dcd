use Rattle.std.proofs.Common.{◌≡◌, take}
use Rattle.bisect_node.specs.Steps.{greatest_in}
use Rattle.bisect_node.proofs.spread.greatest_of.Given as goal

abbrev pub invariant-loop-x : goal.invariant-loop-x
invariant-loop-x l = l.greatest ≡ greatest_in (take l.x-index l.coordinates)
