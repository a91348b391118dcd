use Rattle.std.proofs.Common.{◌≡◌, ◌*◌, length, map, take}
use Rattle.chaos_executing.proofs.counts.row_counts.Given as goal

abbrev pub invariant-loop-items : goal.invariant-loop-items
invariant-loop-items l = l.counts.items ≡ map (λ items. 3 * length items) (take l.items-index l.all)
