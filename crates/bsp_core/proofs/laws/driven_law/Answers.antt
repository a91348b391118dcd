use Rattle.bsp_core.proofs.Runs.{driven}
use Rattle.bsp_core.proofs.laws.driven_law.Goals as goal

pub returns : goal.returns
returns g c plan is before after sent taken begins len all prefixes =
    driven g.N.Phased.IsPlan g.N.Phased.count g.N.Phased.rows g.N.Phased.holds plan is (g.met.N.Phased.few plan is).0
    (g.met.N.Phased.rows_meet plan is) (g.met.N.Phased.rows_fall plan is) before after sent taken begins len all prefixes
