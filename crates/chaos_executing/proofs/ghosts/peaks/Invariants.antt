use Rattle.std.proofs.Common.{◌≡◌, ℕ, ◌<◌, map}
use Rattle.chaos_dist.specs.Counting.{below}
use Rattle.chaos_hash.specs.Stamps.{IsStamped}
use Rattle.plan_tables.specs.Tables.{table_at}
use Rattle.chaos_executing.proofs.ghosts.peaks.Given as goal

abbrev pub invariant-loop-d : goal.invariant-loop-d
invariant-loop-d l = (l.peaks.items ≡ map (λ d. (table_at l.tables d).peak) (below l.d))
    × ((k : ℕ) → k < l.d → IsStamped (table_at l.tables k))
