use Rattle.std.proofs.Common.{◌≡◌, map}
use Rattle.chaos_dist.specs.Counting.{below}
use Rattle.chaos_moving.proofs.counts.copies.Given as goal

abbrev pub invariant-loop-node : goal.invariant-loop-node
invariant-loop-node l = l.lists ≡ map (λ q. l.numbers) (below l._node)
