use Rattle.std.proofs.Common.{◌≡◌, take}
use Rattle.bisect_node.specs.Steps.{kept_lists}
use Rattle.bisect_node.proofs.pieces.kept_lists_of.Given as goal

abbrev pub invariant-loop-axis : goal.invariant-loop-axis
invariant-loop-axis l = l.all ≡ kept_lists l.first l.keys l.found (take l.axis-index l.axes)
