use Rattle.std.proofs.Common.{◌≡◌, length}
use Rattle.bisect_node.specs.Beginning.{AllBegin}
use Rattle.bisect_node.proofs.nodes.bisect_nodes.Given as goal

abbrev pub invariant-loop-node : goal.invariant-loop-node
invariant-loop-node l = (length l.nodes ≡ l.node) × AllBegin l.job l.axes l.nodes
