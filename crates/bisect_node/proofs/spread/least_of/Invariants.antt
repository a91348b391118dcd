use Rattle.std.proofs.Common.{◌≡◌, take}
use Rattle.bisect_node.specs.Steps.{least_in}
use Rattle.bisect_node.proofs.spread.least_of.Given as goal

abbrev pub invariant-loop-x : goal.invariant-loop-x
invariant-loop-x l = l.least ≡ least_in (take l.x-index l.coordinates)
