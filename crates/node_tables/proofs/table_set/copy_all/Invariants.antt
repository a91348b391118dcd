use Rattle.std.proofs.Common.{◌≡◌, take}
use Rattle.node_tables.proofs.table_set.copy_all.Given as goal

abbrev pub invariant-loop-table : goal.invariant-loop-table
invariant-loop-table l = l.copy.items ≡ take l.table-index l.tables
