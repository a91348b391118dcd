use Rattle.std.proofs.Common.{◌≡◌, [], drop, replicate}
use Rattle.std.specs.List.{zip}
use Rattle.chaos_bins.specs.Dealing.{dealt_rows}
use Rattle.chaos_bins.proofs.dealing.deal_first.Given as goal

abbrev pub invariant-loop-k : goal.invariant-loop-k
invariant-loop-k l =
    dealt_rows l.layout.extent l.layout.nodes l.lists (zip (drop l.k l.bins) (drop l.k l.values))
    ≡ dealt_rows l.layout.extent l.layout.nodes (replicate l.layout.nodes []) (zip l.bins l.values)
