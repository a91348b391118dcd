use Rattle.std.proofs.Common.{subst, sym}
use Rattle.plan_tables.specs.Tables.{AreTables}
use Rattle.node_tables.proofs.Sets as set
use Rattle.node_tables.proofs.table_set.TableSet.new.Goals as goal

pub invariant_of-result : goal.invariant_of-result
invariant_of-result c = subst AreTables (sym c.loop.invariant) (set.tables_none _)
