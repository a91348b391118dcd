use Rattle.std.proofs.Common.{◌≡◌, ◌+◌, ◌*◌, map, get_or}
use Rattle.std.specs.Prelude.{pos}
use Rattle.chaos_dist.specs.Counting.{below}
use Rattle.chaos_moving.proofs.asks.read_asks.Given as goal

abbrev pub invariant-loop-at : goal.invariant-loop-at
invariant-loop-at l = l.numbers ≡ map (λ k. get_or l.taken (2 * k + 1) (pos 0)) (below l.at)
