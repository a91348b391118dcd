use Rattle.std.proofs.Common.{◌≡◌, ◌++◌, ◌*◌, drop}
use Rattle.chaos_sched.specs.Scheduled.{asked_items}
use Rattle.chaos_sched.proofs.asked.read_rows.Given as goal

abbrev pub invariant-loop-at : goal.invariant-loop-at
invariant-loop-at l = l.items.items ++ asked_items l.number (drop (4 * l.at) l.rows) ≡ asked_items l.number l.rows
