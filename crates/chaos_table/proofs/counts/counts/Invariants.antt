use Rattle.std.proofs.Common.{◌≡◌, map, pos}
use Rattle.chaos_dist.specs.Counting.{below}
use Rattle.chaos_dist.specs.Owners.{length_in}
use Rattle.chaos_table.proofs.counts.counts.Given as goal

abbrev pub invariant-loop-node : goal.invariant-loop-node
invariant-loop-node l = l.counts ≡ map (λ n. pos (length_in l.owners n)) (below l.node)
