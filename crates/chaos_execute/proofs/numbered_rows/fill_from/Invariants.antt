use Rattle.std.proofs.Common.{◌≡◌, ◌*◌, drop}
use Rattle.std.specs.List.{fold}
use Rattle.chaos_execute.specs.Numbered.{rows_at}
use Rattle.chaos_execute.specs.Pending.{put_slot}
use Rattle.chaos_execute.proofs.numbered_rows.fill_from.Given as goal

abbrev pub invariant-loop-at : goal.invariant-loop-at
invariant-loop-at l = fold put_slot l.numbers (rows_at (drop (2 * l.at) l.rows)) ≡ fold put_slot l.fn.numbers (rows_at l.rows)
