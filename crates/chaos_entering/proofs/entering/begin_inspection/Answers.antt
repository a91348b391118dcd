use Rattle.std.proofs.Common.{sym, subst, ◌∷◌}
use Rattle.chaos_inspect.specs.Inspecting.{first_phase, phase_of}
use Rattle.plan_walk.specs.Places.{left_from}
use Rattle.inspect_uses.specs.Accepted.{IsAccepted}
use Rattle.chaos_entering.specs.Coming.{CanStand, EntersAs}
use Rattle.chaos_entering.proofs.StepEntered.{begin_is_right, begin_stands, placed_of}
use Rattle.chaos_entering.proofs.entering.begin_inspection.Goals as goal

pub enter_inspection-requires-clause-accepted : goal.enter_inspection-requires-clause-accepted
enter_inspection-requires-clause-accepted c = subst IsAccepted (sym c.in_ok-inspection.ensures.facts) c.requires.accepted

pub returns-clause-made : goal.returns-clause-made
returns-clause-made c =
    subst (CanStand c.args.ahead.now.between.now.me c.args.ahead.now.session.now.nodes) (sym c.begins.ensures)
    (begin_stands c.args.ahead.now.between.now.me
    c.args.ahead.now.session.now.nodes c.args.ahead.now.number c.args.ahead.now.site c.in_ok-entered.entered
    c.in_ok-entered.ensures.made
    (placed_of (phase_of c.in_ok-inspection.inspection.stage)
    (first_phase c.args.facts) c.args.ahead.now.number c.args.ahead.now.site c.in_ok-entered.entered
    c.in_ok-inspection.ensures.phase
    c.in_ok-entered.ensures.begins c.in_ok-entered.ensures.placed) c.args.ahead.now.few_steps)

pub returns-clause-right : goal.returns-clause-right
returns-clause-right c = λ plan past rest step st known same number named here pages next begins.
    subst (λ e. EntersAs plan (left_from plan past (step ∷ rest)) c.args.ahead.now.between.now.me e st) (sym c.begins.ensures)
    (begin_is_right c.args.ahead.now.session.now
    c.args.ahead.now.between.now c.args.ahead.now.pages.now
    c.args.ahead.now.number c.args.ahead.now.site c.args.facts c.args.ahead.now.left
    c.in_ok-inspection.inspection c.in_ok-entered.entered
    (record {
      facts = c.in_ok-inspection.ensures.facts;
      node = c.in_ok-inspection.ensures.me;
      phase_is = c.in_ok-inspection.ensures.phase;
      inspecting = c.in_ok-inspection.ensures.inspecting;
    })
    (placed_of (phase_of c.in_ok-inspection.inspection.stage)
    (first_phase c.args.facts) c.args.ahead.now.number c.args.ahead.now.site c.in_ok-entered.entered
    c.in_ok-inspection.ensures.phase
    c.in_ok-entered.ensures.begins c.in_ok-entered.ensures.placed)
    c.in_ok-entered.ensures.right plan past rest step st known same number named here pages next begins)
