use Rattle.std.proofs.Common.{◌≡◌, length, ap, arith, subst, sym}
use Rattle.bsp_core.specs.Turns.{WorldState, AreDone}
use Rattle.bsp_core.proofs.EndsWorld.{known_plan, still_done}
use Rattle.bsp_core.proofs.Playing.{round_still}
use Rattle.bsp_core.proofs.world.World.first_from.Goals as goal

pub returns-clause-ends : goal.returns-clause-ends
returns-clause-ends g c z =
    let k = known_plan g.N.Phased.view g.N.Phased.IsPlan g.N.Phased.count g.N.Phased.rows g.N.Phased.holds _ c.args.self.now c.self.view_is
    c.self.invariant.1 in
    subst (λ (w : WorldState _). AreDone g.N.Phased.view w.nodes) (sym c.loop-k.invariant.0)
    (still_done g.N.Phased.view _ _ _ (g.met.N.Phased.rows_meet k.0 k.1) (g.met.N.Phased.rows_fall k.0 k.1) c.args.self.now k.2
    (round_still g.N.Phased.view (length c.args.self.now.nodes) c.args.from c.args.self.now c.requires
    (λ j l. c.loop-k.invariant.1 j (let e : length c.self.inside.nodes.items ≡ length c.args.self.now.nodes = ap
    (λ (w : WorldState _). length w.nodes) c.self.view_is in omega (arith, l, e, c.self.inside.nodes.ok.0)))))
