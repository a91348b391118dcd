use Rattle.std.proofs.Common.{◌≡◌, ◌*◌, ◌++◌, drop, map}
use Rattle.chaos_bins.specs.Plan.{pairs_in}
use Rattle.append_node.specs.Keys.{pair_of}
use Rattle.append_node.proofs.pairs.add_keys.Given as goal

abbrev pub invariant-loop-k : goal.invariant-loop-k
invariant-loop-k l =
    map pair_of l.keys.items ++ pairs_in (drop (2 * l.k) l.rows) ≡ map pair_of l.initial.keys.items ++ pairs_in l.rows
