use Rattle.bsp_threads.proofs.Finishing.{lawful_run}
use Rattle.bsp_threads.proofs.law.run_law.Goals as goal

pub returns : goal.returns
returns g c plan is old new mails together begins run =
    lawful_run g.N.Phased.view g.N.Phased.IsPlan g.N.Phased.count g.N.Phased.rows g.N.Phased.holds plan old new mails together
    (g.met.N.Phased.few plan is).1 begins run
    (c.driven_law.ensures plan is) (c.whole_law.ensures.within plan is)
