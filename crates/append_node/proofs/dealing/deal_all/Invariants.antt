use Rattle.std.proofs.Common.{◌≡◌, [], map, replicate}
use Rattle.chaos_bins.specs.Coming.{all_pairs}
use Rattle.chaos_bins.specs.Dealing.{dealt_rows, stepped}
use Rattle.append_node.proofs.dealing.deal_all.Given as goal

abbrev pub invariant-loop-node : goal.invariant-loop-node
invariant-loop-node l =
    l.lists
    ≡ dealt_rows l.layout.extent l.layout.nodes
    (replicate l.layout.nodes []) (map (stepped l.layout.extent) (all_pairs l.node l.me l.own l.got))
