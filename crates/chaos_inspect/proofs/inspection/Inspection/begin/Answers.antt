use Rattle.std.proofs.Common.{[], ap, sym, subst, ◌∙◌}
use Rattle.plan_loop.specs.declared.loop_phase.Asking.TheVariants.{Indexes}
use Rattle.plan_loop.specs.declared.loop_phase.Level.TheVariants.{First}
use Rattle.chaos_inspect.specs.Walking.{known_through, spots_told}
use Rattle.chaos_inspect.specs.Inspecting.{InHand}
use Rattle.chaos_inspect.specs.declared.inspection.Inspection.{Inspection}
use Rattle.chaos_inspect.proofs.Beginning.{Begins, Begun, hand_first, phase_begun}
use Rattle.chaos_inspect.proofs.inspection.Inspection.begin.Goals as goal

pub returns-clause-inspecting : goal.returns-clause-inspecting
returns-clause-inspecting c = λ owners store tables owned.
    let x : Inspection = record {
      facts = c.args.facts;
      me = c.args.me;
      mine = c.in_ok-mine.mine;
      asked = c.in_ok-asked.asked;
      spots = c.in_ok-spots.spots;
      values = c.new.result;
      rows = c.new-2.result;
      stage = c.first-stage.result;
    } in
    let begins : Begins x c.asks-seeks.result c.has-fetches.result = record {
      accepted = c.requires.accepted;
      mine = c.in_ok-mine.ensures;
      asks = sym c.asks-seeks.ensures;
      indexes = sym c.has-fetches.ensures;
      values = c.new.ensures;
      asked = λ e. subst (Begun c.args.facts c.in_ok-asked.asked) c.as_slice.ensures (c.in_ok-asked.ensures e);
      spots = λ e. c.in_ok-spots.ensures e ∙ ap (λ is. spots_told c.args.facts (Indexes First) [] (known_through c.args.facts is []))
          c.as_slice-2.ensures;
    } in
    record {
      loop = record { accepted = c.requires.accepted; few = c.requires.few };
      owned = owned;
      node = c.requires.node;
      mine = c.in_ok-mine.ensures;
      hand = subst (InHand x owners store tables) (sym c.first-stage.ensures)
          (hand_first x owners store tables c.asks-seeks.result c.has-fetches.result owned begins);
    }

pub returns-clause-phase : goal.returns-clause-phase
returns-clause-phase c =
    phase_begun c.args.facts c.first-stage.result c.asks-seeks.result c.has-fetches.result c.requires.accepted c.first-stage.ensures
    c.asks-seeks.ensures c.has-fetches.ensures
