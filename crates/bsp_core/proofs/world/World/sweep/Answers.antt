use Rattle.std.proofs.Common.{◌≡◌, ℕ, [], ◌∷◌, length, arith, add-one, sym, ◌∙◌, ap}
use Rattle.bsp_core.specs.Turns.{WorldState, nodes_below}
use Rattle.bsp_core.specs.Script.{moves_by}
use Rattle.bsp_core.proofs.Script.{move_counts, moves_append}
use Rattle.bsp_core.proofs.EndsWorld.{known_plan, still_done}
use Rattle.bsp_core.proofs.Playing.{sweep_keeps}
use Rattle.bsp_core.proofs.world.World.sweep.Goals as goal

pub loop-node-preserved : goal.loop-node-preserved
loop-node-preserved g c =
    let i = c.loop-node.invariant in
    let k = sweep_keeps g.N.Phased.view c.loop-node.moved c.in-Ok.k c.loop-node.node c.args.self.now c.loop-node.self c.moved_by.new.self
    i.3 i.4 i.5 i.6
    c.in-Ok.ensures.falls c.in-Ok.ensures.moves c.in-Ok.ensures.same c.in-Ok.ensures.still in (
      omega (arith, i.0, c.in-Ok.ensures.one),
      c.in-Ok.ensures.nodes ∙ i.1,
      λ plan is h. c.in-Ok.ensures.at plan is (i.2 plan is h),
      k.0,
      k.1,
      k.2,
      k.3,
      λ plan is h.
          c.in-Ok.ensures.script plan is (i.2 plan is h)
          ∙ ap (moves_by (g.N.Phased.rows plan) (c.loop-node.node ∷ [])) (i.7 plan is h)
          ∙ sym (ap (λ (z : ℕ). moves_by (g.N.Phased.rows plan) (nodes_below z) c.args.self.now.moved) (add-one c.loop-node.node)
          ∙ moves_append (g.N.Phased.rows plan) (nodes_below c.loop-node.node) (c.loop-node.node ∷ []) c.args.self.now.moved),
      move_counts g.N.Phased.view c.in-Ok.k c.loop-node.moved c.loop-node.node c.args.self.now c.loop-node.self c.moved_by.new.self
          c.in-Ok.ensures.one i.8 c.in-Ok.ensures.moves c.in-Ok.ensures.same,
    )

pub returns-clause-ends : goal.returns-clause-ends
returns-clause-ends g c z =
    let k = known_plan g.N.Phased.view g.N.Phased.IsPlan g.N.Phased.count g.N.Phased.rows g.N.Phased.holds _ c.args.self.now c.self.view_is
    c.self.invariant.1 in
    still_done g.N.Phased.view _ _ _ (g.met.N.Phased.rows_meet k.0 k.1) (g.met.N.Phased.rows_fall k.0 k.1) c.loop-node.self
    (c.loop-node.invariant.2 k.0 k.1 k.2)
    (λ p lt. c.loop-node.invariant.5 z p (let e : length c.self.inside.nodes.items ≡ length c.args.self.now.nodes = ap
    (λ (w : WorldState _). length w.nodes) c.self.view_is in omega (arith, e, c.self.inside.nodes.ok.0)))

pub returns-in-Err-clause-stops : goal.returns-in-Err-clause-stops
returns-in-Err-clause-stops g c = (
  c.loop-node.node,
  (c.loop-node.self, c.loop-node.invariant.6, c.in-Err.ensures.err),
  λ plan is h. c.in-Err.ensures.err.moved
      ∙ c.loop-node.invariant.7 plan is h,
)
