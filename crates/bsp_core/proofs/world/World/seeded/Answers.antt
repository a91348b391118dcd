use Rattle.std.proofs.Common.{ℕ, suc, [], ◌∷◌, ◌++◌, length, arith, sym, ◌∙◌, ap}
use Rattle.bsp_core.specs.Turns.{WorldState, drawn, next_seed}
use Rattle.bsp_core.specs.Script.{moves_drawn}
use Rattle.bsp_core.proofs.Script.{draw_is, draw_more}
use Rattle.bsp_core.proofs.Turning.{n_is}
use Rattle.bsp_core.proofs.Playing.{move_grows, draws_grow, draws_more}
use Rattle.bsp_core.proofs.EndsWorld.{done_over}
use Rattle.bsp_core.proofs.world.World.seeded.Goals as goal

pub moves_since-requires : goal.moves_since-requires
moves_since-requires g c =
    omega (
      arith,
      c.moves-before.ensures,
      draws_grow g.N.Phased.view _ _ c.args.self.now c.draws.self _ c.draws.invariant.2.1,
      ap (λ (z : WorldState _). length z.moved) (c.in-Ok-eq0.ensures.same c.in-Ok-eq0.field-0-test),
    )

pub returns-in-Ok-eq0-clause-over : goal.returns-in-Ok-eq0-clause-over
returns-in-Ok-eq0-clause-over g c plan is h =
    done_over g.N.Phased.view _ _ _ (g.met.N.Phased.rows_meet plan is) (g.met.N.Phased.rows_fall plan is) c.first_from.new.self
    (c.in-Ok-eq0.ensures.at plan is (c.draws.invariant.1 plan is h)) (g.met.N.Phased.few plan is).0
    (c.in-Ok-eq0.ensures.ends c.in-Ok-eq0.field-0-test)

pub draws-preserved : goal.draws-preserved
draws-preserved g c =
    let m = c.in-Ok.ensures.moves (omega (arith, c.in-Ok.field-0-is)) in (
      c.in-Ok.ensures.nodes ∙ c.draws.invariant.0,
      λ plan is h. c.in-Ok.ensures.at plan is (c.draws.invariant.1 plan is h),
      (
        c.draws.invariant.2.0 ++ m.0 ∷ [],
        draws_more g.N.Phased.view c.args.seed c.draws.invariant.2.0 c.args.self.now c.draws.self c.first_from.new.self c.draws.state
            c.seed_after-state.result c.count-n.result c.drawn_of-from.result m.0
            c.draws.invariant.2.1 (c.count-n.ensures.is ∙ sym c.draws.invariant.0) c.seed_after-state.ensures c.drawn_of-from.ensures.is
            m.1 m.2,
      ),
      (
        suc c.draws.invariant.3.0,
        c.seed_after-state.ensures ∙ ap next_seed c.draws.invariant.3.1,
        omega (arith, move_grows g.N.Phased.view m.0 c.draws.self c.first_from.new.self m.2, c.draws.invariant.3.2),
        λ plan is h.
            let in_step = c.draws.invariant.1 plan is h in
            let size = sym (n_is g.N.Phased.view (g.N.Phased.rows plan) (g.N.Phased.holds plan) (g.N.Phased.count plan)
            (g.met.N.Phased.rows_meet plan is) c.draws.self.nodes c.draws.self.sent c.draws.self.taken c.draws.self.moved in_step) in
            draw_is g.N.Phased.view (g.N.Phased.rows plan) (g.N.Phased.holds plan) (g.N.Phased.count plan)
            (g.met.N.Phased.rows_meet plan is) (g.met.N.Phased.rows_fall plan is) c.draws.self in_step
            c.drawn_of-from.result m.0 c.first_from.new.self m.1 m.2
            ∙ draw_more (g.N.Phased.rows plan) c.draws.invariant.3.0 (g.N.Phased.count plan) c.drawn_of-from.result c.args.seed
            c.draws.state c.args.self.now.moved c.draws.self.moved
            (c.drawn_of-from.ensures.is ∙ ap (λ (z : ℕ). drawn z c.seed_after-state.result) (c.count-n.ensures.is
            ∙ sym c.draws.invariant.0 ∙ size) ∙ ap (drawn (g.N.Phased.count plan)) c.seed_after-state.ensures)
            c.draws.invariant.3.1 (c.draws.invariant.3.3 plan is h),
      ),
    )

pub returns-in-Ok-eq0-clause-script : goal.returns-in-Ok-eq0-clause-script
returns-in-Ok-eq0-clause-script g c plan is h =
    let i = c.draws.invariant.3 in
    let same = ap (λ (z : WorldState _). z.moved) (c.in-Ok-eq0.ensures.same c.in-Ok-eq0.field-0-test) in
    same ∙ i.3 plan is h
    ∙ ap (λ (z : ℕ). moves_drawn (g.N.Phased.rows plan) (g.N.Phased.count plan) c.args.seed z c.args.self.now.moved)
    (omega (arith, ap length same, i.2, c.moves-before.ensures, c.moves_since.ensures))

pub returns-in-Err-clause-stops : goal.returns-in-Err-clause-stops
returns-in-Err-clause-stops g c =
    let i = c.draws.invariant in
    (i.3.0, λ plan is h. c.in-Err.ensures.err.moved ∙ i.3.3 plan is h, i.2.0, c.draws.state, c.draws.self, i.2.1, c.in-Err.ensures.err)
