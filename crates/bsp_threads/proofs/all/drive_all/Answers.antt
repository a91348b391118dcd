use Rattle.bsp_core.specs.Views.{WorksFor}
use Rattle.bsp_threads.proofs.Finishing.{idle_of_plan}
use Rattle.bsp_threads.proofs.all.drive_all.Goals as goal

pub returns-in_err-seats-clause-within : goal.returns-in_err-seats-clause-within
returns-in_err-seats-clause-within g c plan is begins =
    idle_of_plan g.N.Phased.view (WorksFor g.N.Phased.IsPlan g.N.Phased.count g.N.Phased.rows g.N.Phased.holds) c.args.nodes.now
    c.args.mail.now.queues c.args.mail.now.seats.items c.requires.fresh
    (g.N.Phased.rows plan) (g.N.Phased.holds plan) (g.N.Phased.count plan) (c.start_law.ensures plan is c.args.nodes.now begins) begins

pub returns-in_err-back-clause-within : goal.returns-in_err-back-clause-within
returns-in_err-back-clause-within g c plan is begins =
    idle_of_plan g.N.Phased.view (WorksFor g.N.Phased.IsPlan g.N.Phased.count g.N.Phased.rows g.N.Phased.holds) c.args.nodes.now
    c.args.mail.now.queues c.args.mail.now.seats.items c.requires.fresh
    (g.N.Phased.rows plan) (g.N.Phased.holds plan) (g.N.Phased.count plan) (c.start_law.ensures plan is c.args.nodes.now begins) begins
