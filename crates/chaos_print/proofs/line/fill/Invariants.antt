use Rattle.std.proofs.Common.{◌≡◌, ◌*◌, drop}
use Rattle.chaos_print.specs.Printing.{filled_by_rows}
use Rattle.chaos_print.proofs.line.fill.Given as goal

abbrev pub invariant-loop-k : goal.invariant-loop-k
invariant-loop-k l = filled_by_rows l.values (drop (2 * l.k) l.rows) ≡ filled_by_rows l.initial.values l.rows
