use Rattle.std.proofs.Common.{ℕ, List, [], ◌∷◌, ap, take, slice_index, arith, sym, ◌∙◌, subst}
use Rattle.bsp_core.specs.Turns.{Plays}
use Rattle.bsp_core.specs.Script.{moves_by}
use Rattle.bsp_core.proofs.Script.{moves_append}
use Rattle.bsp_core.proofs.Playing.{plays_grow, plays_last, turn_by, take_next}
use Rattle.bsp_core.proofs.world.World.play.Goals as goal

pub loop-node-preserved : goal.loop-node-preserved
loop-node-preserved g c =
    let i = c.loop-node.invariant in
    let p : ℕ = slice_index c.args.turns.now c.loop-node.node-index in (
      c.in-Ok.ensures.nodes ∙ i.0,
      λ plan is h. c.in-Ok.ensures.at plan is (i.1 plan is h),
      subst (λ (z : List ℕ). Plays g.N.Phased.view z c.args.self.now c.moved_by.new.self)
          (sym (take_next g.N.Phased.view c.args.turns.now c.loop-node.node-index c.loop-node-test.true))
          (plays_last g.N.Phased.view (take c.loop-node.node-index c.args.turns.now) p c.args.self.now c.loop-node.self
          c.moved_by.new.self i.2
          (turn_by g.N.Phased.view c.in-Ok.field-0 p c.loop-node.self c.moved_by.new.self c.in-Ok.ensures.moves c.in-Ok.ensures.same
          c.in-Ok.ensures.still)),
      λ plan is h.
          c.in-Ok.ensures.script plan is (i.1 plan is h)
          ∙ ap (moves_by (g.N.Phased.rows plan) (p ∷ [])) (i.3 plan is h)
          ∙ sym (ap (λ (z : List ℕ). moves_by (g.N.Phased.rows plan) z c.args.self.now.moved)
          (take_next g.N.Phased.view c.args.turns.now c.loop-node.node-index c.loop-node-test.true)
          ∙ moves_append (g.N.Phased.rows plan) (take c.loop-node.node-index c.args.turns.now) (p ∷ []) c.args.self.now.moved),
    )

pub moves_since-requires : goal.moves_since-requires
moves_since-requires g c =
    omega (arith, c.moves-before.ensures, plays_grow g.N.Phased.view _ c.args.self.now c.loop-node.self c.loop-node.invariant.2)

pub returns-in-Err-clause-stops : goal.returns-in-Err-clause-stops
returns-in-Err-clause-stops g c = (
  c.loop-node.node-index,
  (c.loop-node.self, c.loop-node.invariant.2, c.in-Err.ensures.err),
  λ plan is h. c.in-Err.ensures.err.moved
      ∙ c.loop-node.invariant.3 plan is h,
)
