use Rattle.bsp_core.proofs.Prefix.{lawful}
use Rattle.bsp_core.proofs.laws.prefix_law.Goals as goal

pub returns : goal.returns
returns g c plan is acts views sent h =
    lawful g.N.Phased.IsPlan g.N.Phased.count g.N.Phased.rows g.N.Phased.holds plan is (g.met.N.Phased.few plan is).0
    (g.met.N.Phased.rows_meet plan is) (g.met.N.Phased.rows_fall plan is) acts views sent h
