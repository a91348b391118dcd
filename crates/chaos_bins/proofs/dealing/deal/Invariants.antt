use Rattle.std.proofs.Common.{◌≡◌, ◌*◌, drop, map}
use Rattle.chaos_bins.specs.Plan.{pairs_in}
use Rattle.chaos_bins.specs.Dealing.{dealt_rows, stepped}
use Rattle.chaos_bins.proofs.dealing.deal.Given as goal

abbrev pub invariant-loop-k : goal.invariant-loop-k
invariant-loop-k l =
    dealt_rows l.layout.extent l.layout.nodes l.lists (map (stepped l.layout.extent) (pairs_in (drop (2 * l.k) l.rows)))
    ≡ dealt_rows l.layout.extent l.layout.nodes l.initial.lists (map (stepped l.layout.extent) (pairs_in l.rows))
