use Rattle.chaos_hash.proofs.Entered as by
use Rattle.chaos_hash.proofs.stamp_table.StampTable.peak.Goals as goal

pub returns-clause-facts : goal.returns-clause-facts
returns-clause-facts c = by.facts c.self.inside.table.entries c.self.inside.pool c.args.self.now c.self.view_is c.len-count.ensures.unique
    c.self.invariant
