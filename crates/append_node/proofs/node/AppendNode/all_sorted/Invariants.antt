use Rattle.std.proofs.Common.{◌≡◌}
use Rattle.chaos_bins.specs.Coming.{all_pairs}
use Rattle.append_node.proofs.node.AppendNode.all_sorted.Given as goal

abbrev pub invariant-loop-node : goal.invariant-loop-node
invariant-loop-node l = l.pairs ≡ all_pairs l.node l.self.face.me l.own l.got
