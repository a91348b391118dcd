use Rattle.bsp_core.proofs.Whole.{has_end, upto_end}
use Rattle.bsp_core.proofs.laws.whole_law.Goals as goal

pub returns-clause-ends : goal.returns-clause-ends
returns-clause-ends g c plan is = has_end (g.N.Phased.rows plan) (g.met.N.Phased.rows_fall plan is)

pub returns-clause-within : goal.returns-clause-within
returns-clause-within g c plan is end t p q e l =
    upto_end (g.N.Phased.rows plan) (g.met.N.Phased.rows_fall plan is) (g.N.Phased.count plan) p q end t
    (g.met.N.Phased.rows_meet plan is) l e
