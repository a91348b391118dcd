use Rattle.std.proofs.Common.{◌≡◌, replicate}
use Rattle.plan_tables.specs.Tables.{no_table}
use Rattle.node_tables.proofs.table_set.TableSet.new.Given as goal

abbrev pub invariant-loop : goal.invariant-loop
invariant-loop l = l.tables.items ≡ replicate l.counter no_table
