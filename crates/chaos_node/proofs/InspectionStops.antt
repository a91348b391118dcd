-- A FORALL is refused: the OUTPUT arrays follow.
use Rattle.std.specs.Prelude.{◌≡◌, refl, ℕ, ◌<◌, ◌≤◌, ◌==◌, ℤ, pos, Bool, true, false, if◌then◌else◌, List, [], ◌∷◌, ◌++◌, drop, length}
use Rattle.std.specs.Prelude.{map, is_some, Option, Some, None}
use Rattle.std.specs.Option.{option_map}
use Rattle.std.proofs.Common.{ap, sym, ◌∙◌, subst, arith, append-nil}
use Rattle.bsp_core.specs.Views.{View}
use Rattle.chaos_hash.specs.Stamps.{Stamps}
use Rattle.fd_program.specs.Layouts.{Scene, loop_at, owners_at, store_at}
use Rattle.fd_program.specs.Loops.{offence_of}
use Rattle.fd_program.specs.Past.{inspecting_of}
use Rattle.fd_program.specs.Reports.{completed_of}
use Rattle.fd_program.specs.Runs.{refusal_of}
use Rattle.fd_program.specs.Texts.{refusal_line, refusal_text}
use Rattle.fd_program.specs.Trace.{is_empty_turn, site_at}
use Rattle.fd_program.specs.declared.loop_facts.LoopFacts.{LoopFacts}
use Rattle.fd_program.specs.declared.refused.Refused.{Refused}
use Rattle.fd_program.specs.declared.trace.LoopTurn.{LoopTurn}
use Rattle.fd_program.specs.declared.trace.Step.{Step}
use Rattle.fd_program.specs.declared.trace.Step.TheVariants.{Forall}
use Rattle.fd_words.specs.declared.place.Offence.{Offence}
use Rattle.plan_loop.specs.declared.loop_phase.LoopPhase.TheVariants as phase
use Rattle.chaos_inspect.specs.Inspecting.{InHand, offence_in}
use Rattle.chaos_inspect.specs.declared.inspection.Inspection.{Inspection}
use Rattle.chaos_inspect.specs.declared.stage.Stage.{Stage as InspectStage}
use Rattle.chaos_inspect.specs.declared.stage.Stage.TheVariants.{Seeking, Telling, Fetching, Answering, Voting, Refused as Stopped, Homing}
use Rattle.chaos_inspect.specs.declared.stage.Stage.TheVariants.{Entered as Put, Ready}
use Rattle.plan_run.specs.Held.{EachLoop, KeepsInStep, lines_of, text_on}
use Rattle.plan_run.specs.Rows.{IsRunPlan, RunPlan, run_in, scene_in}
use Rattle.plan_run.specs.WithinLaws.{refusal_stops}
use Rattle.plan_run.specs.declared.stage.Stage.TheVariants as stage
use Rattle.plan_walk.specs.PhaseBegins.{StopsAtVote, phases_are_counted, votes_stop}
use Rattle.plan_walk.specs.Places.{left_in, outputs_left, present_phase, whole_from}
use Rattle.chaos_entering.specs.Behind.{stages_behind}
use Rattle.chaos_node.specs.Changing.{ChangesRight, changed_by}
use Rattle.chaos_entering.specs.Coming.{IsBehindSteps, EntersAs}
use Rattle.chaos_entering.specs.Enters.{EntersOutput}
use Rattle.chaos_node.specs.Inspections.{EndsPhase, HasInspected}
use Rattle.chaos_entering.specs.Standing.{KnowsBehind, session_in}
use Rattle.chaos_entering.specs.State.{NodeState, held_of}
use Rattle.chaos_node.specs.declared.change.Change.{Change}
use Rattle.chaos_holdings.specs.declared.effect.Effect.TheVariants.{Refuses}
use Rattle.chaos_entering.specs.declared.entered.Entered.{Entered}
use Rattle.chaos_holdings.specs.declared.session.Session.{Session}
use Rattle.chaos_node.proofs.InspectionSteps.{is_past}

-- what it changes
abbrev pub refuses_with : Refused → List ℕ → Entered → Change
refuses_with r line e = record { effect = Refuses r; line = line; entered = e }

abbrev pub refused_here : ℕ → Offence → Refused
refused_here site o = record { site = site; offence = o }

-- ---- the refusal

told_offence : (x : Inspection) (owners : List (List ℕ)) (store : List (List ℤ)) (tables : List Stamps) (s : InspectStage) (o : Offence)
    → offence_in s ≡ Some o
    → InHand x owners store tables s → offence_of x.facts.arrays x.facts.site x.facts.turn store ≡ Some o
told_offence x owners store tables (Seeking asking) o e h = cc
told_offence x owners store tables (Telling asking asked) o e h = cc
told_offence x owners store tables (Fetching level) o e h = cc
told_offence x owners store tables (Answering level asked) o e h = cc
told_offence x owners store tables Voting o e h = cc
told_offence x owners store tables (Stopped offence) o e h = h ∙ e
told_offence x owners store tables (Homing told) o e h = cc
told_offence x owners store tables (Put entering) o e h = cc
told_offence x owners store tables (Ready prepared) o e h = cc

refusal_is : (s : Scene) (past : List Step) (site : ℕ) (turn : LoopTurn) (x : Inspection) (o : Offence)
    → x.facts ≡ loop_at s past site turn → is_empty_turn turn ≡ false
    → offence_of x.facts.arrays x.facts.site x.facts.turn (store_at s past) ≡ Some o
    → refusal_of s.checked (Forall site turn) (store_at s past) ≡ Some (refused_here site o)
refusal_is s past site turn x o same some h =
    let store = store_at s past in
    let told : offence_of s.checked.arrays (site_at s.checked.sites site) turn store ≡ Some o
    = ap (λ (f : LoopFacts). offence_of f.arrays f.site f.turn store) (sym same) ∙ h in
    ap (λ b. option_map (refused_here site) (if b then None else offence_of s.checked.arrays (site_at s.checked.sites site) turn store))
    some
    ∙ ap (option_map (refused_here site)) told

-- ---- phases left

outputs_fit : (plan : RunPlan) (rest past : List Step) → length plan.checked.outputs ≤ length (whole_from plan past rest)
outputs_fit plan [] past = let z = (phases_are_counted plan past).last in omega (arith, z)
outputs_fit plan (step ∷ rest) past = let z = (phases_are_counted plan past).steps step rest in
    omega (arith, z, outputs_fit plan rest (step ∷ past))

-- ---- the text

text_joined : (b : Bool) (xs ys : List ℕ) → (if b then xs else []) ++ (if b then ys else []) ≡ (if b then xs ++ ys else [])
text_joined true xs ys = refl
text_joined false xs ys = refl

text_with : (p : ℕ) (text line lines refusal : List ℕ) → text ≡ text_on p lines → line ≡ text_on p refusal
    → text ++ line ≡ text_on p (lines ++ refusal ++ [])
text_with p text line lines refusal e f =
    ap (λ t. t ++ line) e ∙ ap (λ l. text_on p lines ++ l) f ∙ text_joined (p == 0) lines refusal
    ∙ ap (text_on p) (sym (append-nil (lines ++ refusal)))

-- ---- the change

pub inspection_stops : (v : View NodeState) (i : Inspection) (tables : List Stamps) (o : Offence) (line : List ℕ) (e : Entered) (left : ℕ)
    → EndsPhase v i tables → offence_in i.stage ≡ Some o
    → line ≡ text_on v.face.me (refusal_line v.state.session.checked (refused_here v.state.at.site o))
    → (length v.state.session.checked.outputs < v.face.left → left ≡ length v.state.session.checked.outputs)
    → EntersOutput v.state.session v.face.me 0 v.state.holdings.elements v.state.holdings.parts left e
    → ChangesRight v (refuses_with (refused_here v.state.at.site o) line e)
inspection_stops v i tables o line e left ends told line_is left_is enters plan t p is less row holds =
    let h : HasInspected plan t p v.state i tables = ends plan t p is less row holds in
    let s = scene_in plan in
    let run = run_in plan in
    let site = v.state.at.site in
    let step = Forall site h.turn in
    let r = refused_here site o in
    let stages = stages_behind (loop_at s h.past site h.turn) h.present in
    let st = changed_by v.state (refuses_with r line e) in
    let k = h.in_step.knows in
    let vote : h.present ≡ phase.Vote = h.votes (ap (λ (o : Option Offence). is_some o) told) in
    let refusal = refusal_is s h.past site h.turn i o h.facts h.some (told_offence i (owners_at s h.past) (store_at s h.past) tables
    i.stage o told h.inspecting.hand) in
    let stop : StopsAtVote plan h.past step h.rest stages r = votes_stop plan h.past step h.rest stages r h.in_step.places refusal in
    let past = is_past plan t p (present_phase plan h.past step h.rest (stage.InLoop phase.Vote) stages)
    (outputs_left plan h.past 0 plan.checked.outputs) v.face row
    (h.in_step.phases_are ∙ ap (λ l. left_in plan h.past step h.rest (stage.InLoop l ∷ stages)) vote ∙ stop.left) in
    let count = (phases_are_counted plan h.past).within step h.rest stages in
    let same : v.state.session.checked ≡ plan.checked = ap (λ (x : Session). x.checked) h.session in
    let outputs : length v.state.session.checked.outputs ≡ length plan.checked.outputs = ap (λ (x : Session). length x.checked.outputs)
    h.session in
    let fits = outputs_fit plan h.rest (step ∷ h.past) in
    let left_now : left ≡ length plan.checked.outputs = left_is (omega (arith, outputs, past.left, count, fits)) ∙ outputs in
    let line_now : line ≡ text_on p (refusal_line plan.checked r) = line_is ∙ ap (λ q. text_on q (refusal_line v.state.session.checked r))
    past.me
    ∙ ap (λ (x : Session). text_on p (refusal_line x.checked r)) h.session in
    let knows : KnowsBehind s run h.past 0 p (held_of st) = record {
      history = h.in_step.places.history;
      stands = record {
        parts = k.stands.parts;
        elements = k.stands.elements;
        records = k.stands.records;
        pages = k.stands.pages;
        counts = k.stands.counts;
        places = k.stands.places;
      };
      keeps = refusal_stops s run h.past site h.turn r p v.state.holdings.tables v.state.holdings.kept stop.refused refusal h.inspects
          (subst (λ l. EachLoop s.checked (KeepsInStep s run h.past step (stage.InLoop l) p v.state.holdings.tables)
          v.state.holdings.kept) vote k.keeps);
      inspected = k.inspected ∙ ap (λ steps. map pos (inspecting_of plan.checked steps)) (sym stop.executed);
      text = text_with p v.state.text line (lines_of s h.past) (refusal_line plan.checked r) k.text line_now
          ∙ ap (λ (o : Option Refused). text_on p (lines_of s h.past ++ refusal_text plan.checked o ++ [])) (sym stop.refused);
      refused = sym stop.refused;
      last = stop.last;
    } in
    let behind : IsBehindSteps plan 0 p left st = record {
      session = h.session;
      within = omega arith;
      left_is = left_now;
      knows = subst (λ steps. KnowsBehind s run steps 0 p (held_of st)) (sym stop.completed) knows;
    } in
    subst (λ phases. EntersAs plan phases p e st) (sym (past.behind ∙ ap (λ steps. outputs_left plan steps 0 plan.checked.outputs)
    (sym stop.completed)))
    (subst (λ q. EntersAs plan (outputs_left plan (completed_of run) 0 plan.checked.outputs) q e st) past.me
    (enters plan st is h.session (subst (λ q. IsBehindSteps plan 0 q left st) (sym past.me) behind) refl refl))
