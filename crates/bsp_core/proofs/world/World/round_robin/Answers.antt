use Rattle.std.proofs.Common.{suc, ◌+◌, length, arith, ap, sym, ◌∙◌}
use Rattle.bsp_core.specs.Script.{moves_by}
use Rattle.bsp_core.specs.Turns.{nodes_below, rounds}
use Rattle.bsp_core.proofs.Script.{moves_append, round_more, rounds_over}
use Rattle.bsp_core.proofs.Playing.{plays_append, plays_grow, round_next}
use Rattle.bsp_core.proofs.EndsWorld.{done_over}
use Rattle.bsp_core.proofs.world.World.round_robin.Goals as goal

pub moves_since-requires : goal.moves_since-requires
moves_since-requires g c =
    omega (
      arith,
      c.moves-before.ensures,
      plays_grow g.N.Phased.view _ c.args.self.now c.rounds.self c.rounds.invariant.2.1,
      plays_grow g.N.Phased.view _ c.rounds.self c.sweep.new.self c.in-Ok-eq0.ensures.plays,
    )

pub returns-in-Ok-eq0-clause-plays : goal.returns-in-Ok-eq0-clause-plays
returns-in-Ok-eq0-clause-plays g c = (
  suc c.rounds.invariant.2.0,
  round_next g.N.Phased.view c.rounds.invariant.2.0 (length c.args.self.now.nodes) (length c.rounds.self.nodes) c.args.self.now
      c.rounds.self c.sweep.new.self
      c.rounds.invariant.2.1 c.rounds.invariant.0 c.in-Ok-eq0.ensures.plays,
)

pub returns-in-Ok-eq0-clause-over : goal.returns-in-Ok-eq0-clause-over
returns-in-Ok-eq0-clause-over g c plan is h =
    done_over g.N.Phased.view _ _ _ (g.met.N.Phased.rows_meet plan is) (g.met.N.Phased.rows_fall plan is) c.sweep.new.self
    (c.in-Ok-eq0.ensures.at plan is (c.rounds.invariant.1 plan is h)) (g.met.N.Phased.few plan is).0
    (c.in-Ok-eq0.ensures.ends c.in-Ok-eq0.field-0-test)

pub returns-in-Ok-eq0-clause-script : goal.returns-in-Ok-eq0-clause-script
returns-in-Ok-eq0-clause-script g c plan is h =
    let i = c.rounds.invariant in
    let k = i.2.0 in
    let n = length c.args.self.now.nodes in
    let over = c.in-Ok-eq0.ensures.at plan is (i.1 plan is h) in
    let more = plays_grow g.N.Phased.view _ c.rounds.self c.sweep.new.self c.in-Ok-eq0.ensures.plays in
    rounds_over g.N.Phased.view _ _ _ (g.met.N.Phased.rows_meet plan is) (g.met.N.Phased.rows_fall plan is) c.sweep.new.self over
    (c.in-Ok-eq0.ensures.ends c.in-Ok-eq0.field-0-test) n (c.in-Ok-eq0.ensures.nodes ∙ i.0) (suc k)
    (c.moves_since.result + 1) c.args.self.now.moved (omega (arith, more, i.2.2, c.moves-before.ensures, c.moves_since.ensures))
    (c.in-Ok-eq0.ensures.script plan is (i.1 plan is h)
    ∙ round_more (g.N.Phased.rows plan) k n (length c.rounds.self.nodes) c.args.self.now.moved c.rounds.self.moved i.0 (i.2.3 plan is h))

pub rounds-preserved : goal.rounds-preserved
rounds-preserved g c =
    let i = c.rounds.invariant.2 in
    let n = length c.args.self.now.nodes in (
      c.in-Ok.ensures.nodes ∙ c.rounds.invariant.0,
      λ plan is h. c.in-Ok.ensures.at plan is (c.rounds.invariant.1 plan is h),
      (
        suc i.0,
        round_next g.N.Phased.view i.0 n (length c.rounds.self.nodes) c.args.self.now c.rounds.self c.sweep.new.self i.1
            c.rounds.invariant.0 c.in-Ok.ensures.plays,
        omega (arith, c.in-Ok.ensures.grows, i.2, c.in-Ok.field-0-is),
        λ plan is h.
            c.in-Ok.ensures.script plan is (c.rounds.invariant.1 plan is h)
            ∙ round_more (g.N.Phased.rows plan) i.0 n (length c.rounds.self.nodes) c.args.self.now.moved c.rounds.self.moved
            c.rounds.invariant.0 (i.3 plan is h),
      ),
    )

pub returns-in-Err-clause-stops : goal.returns-in-Err-clause-stops
returns-in-Err-clause-stops g c =
    let i = c.rounds.invariant in
    let k = i.2.0 in
    let n = length c.args.self.now.nodes in
    let s = c.in-Err.ensures.stops in (
      k,
      s.0,
      (s.1.0, plays_append g.N.Phased.view (rounds k n) (nodes_below s.0) c.args.self.now c.rounds.self s.1.0 i.2.1 s.1.1, s.1.2),
      λ plan is h.
          s.2 plan is (i.1 plan is h) ∙ ap (moves_by (g.N.Phased.rows plan) (nodes_below s.0)) (i.2.3 plan is h)
          ∙ sym (moves_append (g.N.Phased.rows plan) (rounds k n) (nodes_below s.0) c.args.self.now.moved),
    )
