use Rattle.bsp_core.proofs.Moving.{some_moves}
use Rattle.bsp_core.proofs.laws.some_can_move.Goals as goal

pub returns : goal.returns
returns g c plan is w h =
    some_moves g.N.Phased.view (g.N.Phased.rows plan) (g.N.Phased.holds plan) (g.N.Phased.count plan) (g.met.N.Phased.rows_meet plan is)
    (g.met.N.Phased.rows_fall plan is) w h
