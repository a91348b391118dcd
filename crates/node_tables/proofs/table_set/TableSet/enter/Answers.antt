use Rattle.node_tables.proofs.Sets as set
use Rattle.node_tables.proofs.table_set.TableSet.enter.Goals as goal

pub enter-requires-clause-few : goal.enter-requires-clause-few
enter-requires-clause-few c =
    set.few_entries c.index_mut-table.result.now (set.has_lent c.self.inside.tables.items c.args.self.now c.self.view_is
    c.args.decomposition c.index_mut-table.result.now c.requires.within c.index_mut-table.ensures.value c.self.invariant)

pub invariant_of-self : goal.invariant_of-self
invariant_of-self c =
    set.tables_set c.self.inside.tables.items c.args.decomposition c.enter.new.self c.self.invariant
    (set.has_either c.self.inside.tables.items c.args.self.now c.self.view_is c.args.decomposition c.args.element c.args.place
    c.args.stamp c.index_mut-table.result.now c.enter.new.self c.requires.within c.index_mut-table.ensures.value
    c.enter.result c.self.invariant (record { some = c.requires.from_one; most = c.requires.most }) c.enter.ensures.entered
    c.enter.ensures.err)

pub returns-clause-entered : goal.returns-clause-entered
returns-clause-entered c =
    set.entered_is c.self.inside.tables.items c.args.self.now c.self.view_is c.args.decomposition c.args.element c.args.place c.args.stamp
    c.index_mut-table.result.now c.enter.new.self c.requires.within c.index_mut-table.ensures.value c.enter.result
    c.enter.ensures.entered c.enter.ensures.peak

pub returns-clause-slot : goal.returns-clause-slot
returns-clause-slot c =
    set.slot_is c.self.inside.tables.items c.args.self.now c.self.view_is c.args.decomposition c.args.element c.args.place c.args.stamp
    c.index_mut-table.result.now c.enter.new.self c.requires.within c.index_mut-table.ensures.value c.enter.result c.enter.ensures.slot

pub returns-clause-err : goal.returns-clause-err
returns-clause-err c =
    set.kept_err c.self.inside.tables.items c.args.self.now c.self.view_is c.args.decomposition c.args.element c.args.place c.args.stamp
    c.index_mut-table.result.now c.enter.new.self c.requires.within c.index_mut-table.ensures.value c.enter.result c.enter.ensures.err
