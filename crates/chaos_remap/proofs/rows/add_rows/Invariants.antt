use Rattle.std.proofs.Common.{◌≡◌, ◌++◌, map}
use Rattle.std.specs.List.{range_with_len}
use Rattle.chaos_remap.specs.Rows.{row_of}
use Rattle.chaos_remap.proofs.rows.add_rows.Given as goal

abbrev pub invariant-loop-row : goal.invariant-loop-row
invariant-loop-row l = l.rows.items ≡ l.fn.rows.items ++ map (row_of l.width l.sender l.numbers) (range_with_len 0 l.row)
