use Rattle.std.proofs.Common.{◌≡◌, ◌++◌, take}
use Rattle.bisect_node.specs.Steps.{told_of_piece}
use Rattle.bisect_node.proofs.spread.push_spread.Given as goal

abbrev pub invariant-loop-axis : goal.invariant-loop-axis
invariant-loop-axis l = l.told ≡ l.fn.told ++ told_of_piece (take l.axis-index l.axes)
