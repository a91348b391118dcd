use Rattle.bsp_core.proofs.Moving.{one_number}
use Rattle.bsp_core.proofs.laws.orders_agree.Goals as goal

pub returns : goal.returns
returns g c plan is v w a b = one_number g.N.Phased.view (g.N.Phased.rows plan) (g.N.Phased.holds plan) (g.N.Phased.count plan) v w a b
