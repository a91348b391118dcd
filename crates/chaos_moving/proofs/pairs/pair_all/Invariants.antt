use Rattle.std.proofs.Common.{◌≡◌, ℕ}
use Rattle.std.specs.Prelude.{ℤ, flat_map}
use Rattle.chaos_dist.specs.Counting.{below}
use Rattle.list_laws.specs.Dealt.{dealt}
use Rattle.chaos_moving.specs.Pairs.{pairs_at}
use Rattle.chaos_moving.proofs.pairs.pair_all.Given as goal

abbrev pub invariant-loop-at : goal.invariant-loop-at
invariant-loop-at l =
    l.lists ≡ dealt (λ (pair : ℕ × ℤ). pair.0) (λ (pair : ℕ × ℤ). pair.1) l.nodes
    (flat_map (pairs_at l.extent l.nodes l.offset l.elements l.values) (below l.at))
