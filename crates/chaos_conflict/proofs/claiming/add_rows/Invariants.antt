use Rattle.std.proofs.Common.{◌≡◌, ◌++◌, take}
use Rattle.std.specs.List.{flat_map}
use Rattle.chaos_conflict.specs.Rows.{claim_row}
use Rattle.chaos_conflict.proofs.claiming.add_rows.Given as goal

abbrev pub invariant-loop-row : goal.invariant-loop-row
invariant-loop-row l = l.numbers ≡ l.fn.numbers ++ flat_map claim_row (take l.row-index l.rows)
