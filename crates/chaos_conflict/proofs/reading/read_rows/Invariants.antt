use Rattle.std.proofs.Common.{◌≡◌, ◌++◌, ◌*◌, drop}
use Rattle.chaos_conflict.specs.Rows.{rows_of}
use Rattle.chaos_conflict.proofs.reading.read_rows.Given as goal

abbrev pub invariant-loop-at : goal.invariant-loop-at
invariant-loop-at l = l.rows.items ++ rows_of (drop (3 * l.at) l.numbers) ≡ l.fn.rows.items ++ rows_of l.numbers
