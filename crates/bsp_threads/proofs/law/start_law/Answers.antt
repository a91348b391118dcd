use Rattle.bsp_threads.proofs.Ending.{numbered}
use Rattle.bsp_threads.proofs.law.start_law.Goals as goal

pub returns : goal.returns
returns g c plan is nodes begins =
    numbered g.N.Phased.view (g.N.Phased.rows plan) (g.N.Phased.holds plan) (g.N.Phased.count plan) nodes (g.met.N.Phased.few plan is).1
    (g.met.N.Phased.rows_meet plan is 0) begins
