use Rattle.node_tables.proofs.Sets as set
use Rattle.node_tables.proofs.table_set.TableSet.clear.Goals as goal

pub invariant_of-self : goal.invariant_of-self
invariant_of-self c =
    set.tables_set c.self.inside.tables.items c.args.decomposition c.clear.new.self c.self.invariant
    (set.has_cleared c.index_mut-table.result.now c.clear.new.self _
    (set.has_lent c.self.inside.tables.items c.args.self.now c.self.view_is c.args.decomposition c.index_mut-table.result.now
    c.requires.within c.index_mut-table.ensures.value c.self.invariant) c.clear.ensures.held)

pub returns-clause-entries : goal.returns-clause-entries
returns-clause-entries c =
    set.cleared_in c.self.inside.tables.items c.args.self.now c.self.view_is c.args.decomposition c.index_mut-table.result.now
    c.requires.within c.index_mut-table.ensures.value _ c.clear.new.self c.clear.ensures.held
