use Rattle.std.proofs.Common.{◌≡◌, take}
use Rattle.bisect_node.specs.Blocks.{own_in}
use Rattle.bisect_node.proofs.nodes.own_of.Given as goal

abbrev pub invariant-loop-axis : goal.invariant-loop-axis
invariant-loop-axis l = l.own ≡ own_in l.layout.extent l.layout.nodes l.node (take l.axis-index l.all)
