use Rattle.chaos_print.proofs.OwnRows.{rows_are_held}
use Rattle.chaos_print.proofs.laws.rows_are_held.Goals as goal

pub returns : goal.returns
returns c = rows_are_held
