use Rattle.std.proofs.Common.{◌≡◌, map}
use Rattle.chaos_execute.specs.Pending.{rows_of}
use Rattle.chaos_execute.proofs.row_lists.RowLists.into_numbers.Given as goal

abbrev pub invariant-loop-rows : goal.invariant-loop-rows
invariant-loop-rows l = l.numbers ≡ map rows_of l.yielded
