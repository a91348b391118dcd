use Rattle.std.proofs.Common.{◌+◌, ◌-◌, length}
use Rattle.chaos_execute.specs.Numbered.{IsGrown}
use Rattle.chaos_execute.proofs.numbered_rows.grow.Given as goal

abbrev pub invariant-loop-table : goal.invariant-loop-table
invariant-loop-table l = IsGrown l.fn.table.items l.table.items

abbrev pub decreases-loop-table : goal.decreases-loop-table
decreases-loop-table l = l.place + 1 - length l.table.items
