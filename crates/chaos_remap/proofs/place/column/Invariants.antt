use Rattle.std.proofs.Common.{◌≡◌, take}
use Rattle.chaos_remap.specs.Rows.{column_of}
use Rattle.chaos_remap.proofs.place.column.Given as goal

abbrev pub invariant-loop-row : goal.invariant-loop-row
invariant-loop-row l = l.numbers ≡ column_of l.taken (take l.row-index l.rows) l.place
