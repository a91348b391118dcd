-- An inspection goes on with its next phase.
use Rattle.std.specs.Prelude.{◌≡◌, refl, ℕ, ◌+◌, true, if◌then◌else◌, List, [], ◌∷◌, drop, length, is_some, Option, Some, None}
use Rattle.std.proofs.Common.{ap, sym, ◌∙◌, subst, arith, append-nil}
use Rattle.bsp_core.specs.Views.{View}
use Rattle.chaos_hash.specs.Stamps.{Stamps}
use Rattle.fd_program.specs.Layouts.{loop_at}
use Rattle.fd_program.specs.declared.loop_facts.LoopFacts.{LoopFacts}
use Rattle.fd_program.specs.declared.trace.LoopTurn.{LoopTurn}
use Rattle.fd_program.specs.declared.trace.Step.{Step}
use Rattle.fd_program.specs.declared.trace.Step.TheVariants.{Forall}
use Rattle.fd_words.specs.declared.place.Offence.{Offence}
use Rattle.plan_loop.specs.declared.loop_phase.LoopPhase.{LoopPhase}
use Rattle.plan_loop.specs.declared.loop_phase.LoopPhase.TheVariants as phase
use Rattle.chaos_inspect.specs.Inspecting.{offence_in, phase_after, phase_of}
use Rattle.chaos_inspect.specs.declared.inspection.Inspection.{Inspection}
use Rattle.plan_run.specs.PreparedLaws.{OthersStayPrepared}
use Rattle.plan_run.specs.Rows.{IsRunPlan, RunPlan, phases_in, run_in, scene_in}
use Rattle.plan_run.specs.declared.stage.Stage.TheVariants as stage
use Rattle.plan_walk.specs.Places.{left_in, present_phase, whole_left}
use Rattle.chaos_entering.specs.Behind.{stages_behind, stages_go_on}
use Rattle.chaos_node.specs.Changing.{ChangesRight, changed_by}
use Rattle.chaos_entering.specs.Coming.{IsComing, EntersAs, KnowsLengths}
use Rattle.chaos_entering.specs.Enters.{EntersInspection}
use Rattle.chaos_node.specs.Inspections.{EndsPhase, HasInspected}
use Rattle.chaos_entering.specs.Standing.{GoesOnInspecting, KnowsInStep, session_in}
use Rattle.chaos_entering.specs.State.{NodeState, held_of}
use Rattle.chaos_node.specs.declared.change.Change.{Change}
use Rattle.chaos_holdings.specs.declared.effect.Effect.TheVariants.{Inspects}
use Rattle.chaos_entering.specs.declared.entered.Entered.{Entered}
use Rattle.chaos_node.proofs.InspectionSteps.{inspection_is_early, is_past, keeps_from_phase, left_passes, lengths_behind, vote_passes}

-- what it changes
abbrev pub goes_on_with : List Stamps → Entered → Change
goes_on_with tables e = record { effect = Inspects tables None; line = []; entered = e }

-- where there is no offence what follows is the next phase
pub next_phase_is : (f : LoopFacts) (o : Option Offence) (here : Option LoopPhase) (l : LoopPhase) → o ≡ None
    → here ≡ (if is_some o then None else phase_after f l) → here ≡ phase_after f l
next_phase_is f None here l none e = e
next_phase_is f (Some x) here l none e = cc

-- what a node knows as the next phase begins
knows_next : (plan : RunPlan) (t p : ℕ) (st : NodeState) (i : Inspection) (tables : List Stamps) (e : Entered) (next : LoopPhase)
    → OthersStayPrepared → IsRunPlan plan
    → (h : HasInspected plan t p st i tables) → phase_of i.stage ≡ Some next
    → KnowsInStep (scene_in plan) (run_in plan) h.past (Forall st.at.site h.turn) (stage.InLoop next) p
    (held_of (changed_by st (goes_on_with tables e)))
knows_next plan t p st i tables e next others is h there =
    let s = scene_in plan in
    let k = h.in_step.knows in
    record {
      stands = record {
        parts = k.stands.parts;
        elements = k.stands.elements;
        records = k.stands.records;
        pages = k.stands.pages;
        counts = k.stands.counts;
        places = h.places;
      };
      keeps = keeps_from_phase s (run_in plan) h.past st.at.site h.turn h.present next p st.holdings.tables tables st.holdings.kept
          h.inspects h.early
          (inspection_is_early i.stage next there) (others s h.past st.at.site h.turn st.holdings.tables tables is.checked h.known
          h.others) k.keeps;
      inspected = k.inspected;
      text = append-nil st.text ∙ k.text;
      refused = k.refused;
      sized = h.sized;
    }

pub inspection_goes_on : (v : View NodeState) (i : Inspection) (tables : List Stamps) (e : Entered) (left : ℕ) → OthersStayPrepared
    → EndsPhase v i tables
    → offence_in i.stage ≡ None → is_some (phase_of i.stage) ≡ true → left + 1 ≡ v.face.left
    → EntersInspection v.state.session v.face.me v.state.at.execution v.state.at.site i v.state.holdings.parts v.state.holdings.pages
    v.state.at.sizes left e
    → ChangesRight v (goes_on_with tables e)
inspection_goes_on v i tables e left others ends passes goes falls enters plan t p is less row holds = by (phase_of i.stage) refl goes
  where
    h : HasInspected plan t p v.state i tables
    h = ends plan t p is less row holds

    by : (o : Option LoopPhase) → phase_of i.stage ≡ o → is_some o ≡ true → EntersAs plan (drop (t + 1) (phases_in plan)) p e
        (changed_by v.state (goes_on_with tables e))
    by None there some = cc
    by (Some next) there some =
        let s = scene_in plan in
        let step = Forall v.state.at.site h.turn in
        let f = loop_at s h.past v.state.at.site h.turn in
        let st = changed_by v.state (goes_on_with tables e) in
        let here = next_phase_is f (offence_in i.stage) (phase_of i.stage) h.present passes h.next in
        let after : phase_after f h.present ≡ Some next = sym here ∙ there in
        let stages = stages_go_on f h.present next after in
        let left_is = left_passes plan h.past v.state.at.site h.turn h.rest h.present (stages_behind f h.present) h.in_step.places
        (λ vote. vote_passes s h.past v.state.at.site h.turn i tables h.facts (here ∙ ap (phase_after f) vote) h.inspecting.hand) in
        let past = is_past plan t p (present_phase plan h.past step h.rest (stage.InLoop h.present) (stages_behind f h.present))
        (left_in plan h.past step h.rest (stages_behind f h.present)) v.face row (h.in_step.phases_are ∙ left_is) in
        let coming : IsComing plan h.past step h.rest (stage.InLoop next) (stages_behind f next) p left st = record {
          session = h.session;
          node = less;
          places = h.in_step.places;
          left_is = let z : whole_left plan h.past step h.rest (stages_behind f h.present) ≡ whole_left plan h.past step h.rest
              (stage.InLoop next ∷ stages_behind f next)
              = ap (whole_left plan h.past step h.rest) stages in omega (arith, z, past.left, falls);
          knows = knows_next plan t p v.state i tables e next others is h there;
        } in
        let goes_on : GoesOnInspecting plan h.past v.state.at.site h.turn next p tables i = record {
          phase_is = there;
          some = h.some;
          inspects = h.inspects;
          facts = h.facts;
          node = h.node;
          inspecting = h.inspecting;
        } in
        let lengths = lengths_behind plan h.past v.state.at.site h.turn h.present next p v.state.at.sizes after h.sizes in
        let me : p ≡ v.face.me = sym past.me in
        subst (λ phases. EntersAs plan phases p e st) (sym (past.behind ∙ ap (left_in plan h.past step h.rest) stages))
        (subst (λ q. EntersAs plan (left_in plan h.past step h.rest (stage.InLoop next ∷ stages_behind f next)) q e st) past.me
        (enters plan h.past h.rest h.turn next st is h.session h.in_step.execution
        (subst (λ q. IsComing plan h.past step h.rest (stage.InLoop next) (stages_behind f next) q left st) me coming)
        (subst (λ q. GoesOnInspecting plan h.past v.state.at.site h.turn next q tables i) me goes_on)
        refl refl
        (subst (λ q. KnowsLengths plan h.past step (stage.InLoop next) q v.state.at.sizes) me lengths)))
