use Rattle.node_tables.proofs.Sets as set
use Rattle.node_tables.proofs.table_set.TableSet.drop_table.Goals as goal

pub invariant_of-self : goal.invariant_of-self
invariant_of-self c =
    set.tables_set c.self.inside.tables.items c.args.decomposition c.drop_all.new.self c.self.invariant
    (set.has_none c.drop_all.new.self c.drop_all.ensures.held)

pub returns : goal.returns
returns c =
    set.dropped_is c.self.inside.tables.items c.args.self.now c.self.view_is c.args.decomposition c.index_mut-table.result.now
    c.requires c.index_mut-table.ensures.value c.drop_all.new.self c.drop_all.ensures.held c.drop_all.ensures.peak
