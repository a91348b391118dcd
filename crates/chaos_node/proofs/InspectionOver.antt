-- The end of an inspection: it is kept, and its execution follows.
use Rattle.std.specs.Prelude.{◌≡◌, refl, ℕ, ℤ, zero, suc, ◌+◌, ◌<◌, false, List, [], ◌∷◌, length, slice_get, slice_set, Option, Some, None}
use Rattle.std.specs.List.{AllByRecursion, AllZip, range_with_len}
use Rattle.std.specs.Option.{option_and_then}
use Rattle.std.proofs.Common.{ap, sym, ◌∙◌, subst, arith, append-nil}
use Rattle.bsp_core.specs.Views.{View}
use Rattle.chaos_dist.specs.Counting.{below}
use Rattle.fd_program.specs.StepLaws.{IsStepOf, IsStepIn, StepsAreIn}
use Rattle.chaos_executing.specs.InRun.{CanExecute}
use Rattle.chaos_hash.specs.Stamps.{Stamps}
use Rattle.fd_program.specs.Layouts.{loop_at, owners_at, store_at}
use Rattle.fd_program.specs.Loops.{offence_of}
use Rattle.fd_program.specs.Past.{record_at}
use Rattle.fd_program.specs.Stores.{FitsStore}
use Rattle.fd_program.specs.Trace.{is_empty_turn}
use Rattle.fd_program.specs.declared.checked.Checked.{Checked}
use Rattle.fd_program.specs.declared.loop_facts.LoopFacts.{LoopFacts}
use Rattle.fd_program.specs.declared.loop_record.LoopRecord.{LoopRecord}
use Rattle.fd_program.specs.declared.trace.LoopTurn.{LoopTurn}
use Rattle.fd_program.specs.declared.trace.Step.{Step}
use Rattle.fd_program.specs.declared.trace.Step.TheVariants.{Distribute, Print, Forall}
use Rattle.chaos_records.specs.Keeping.{record_in}
use Rattle.chaos_records.specs.KeepingLaws.{RecordsAreExact}
use Rattle.plan_tables.specs.Fits.{Fits}
use Rattle.plan_loop.specs.declared.loop_phase.LoopPhase.{LoopPhase}
use Rattle.plan_loop.specs.declared.loop_phase.LoopPhase.TheVariants as phase
use Rattle.chaos_inspect.specs.Inspecting.{HasNoOffence, InHand, IsInspecting, offence_in, phase_after, phase_of}
use Rattle.chaos_inspect.specs.declared.inspection.Inspection.{Inspection}
use Rattle.chaos_inspect.specs.declared.stage.Stage.{Stage as InspectStage}
use Rattle.chaos_inspect.specs.declared.stage.Stage.TheVariants.{Seeking, Telling, Fetching, Answering, Voting, Refused as Stopped, Homing}
use Rattle.chaos_inspect.specs.declared.stage.Stage.TheVariants.{Entered as Put, Ready}
use Rattle.plan_tables.specs.Tables.{IsEntered, slots_entered}
use Rattle.chaos_sched.specs.declared.prepared.Prepared.{Prepared}
use Rattle.plan_run.specs.Held.{EachLoop, IsInspected, KeepsInStep}
use Rattle.plan_run.specs.InspectionLaws.{inspection_ends}
use Rattle.plan_run.specs.PreparedLaws.{OthersStayPrepared}
use Rattle.plan_run.specs.Rows.{IsRunPlan, RunPlan, run_in, scene_in}
use Rattle.plan_run.specs.declared.kept.Kept.{Kept}
use Rattle.plan_run.specs.declared.stage.Stage.TheVariants as stage
use Rattle.plan_walk.specs.Places.{left_in, present_phase, whole_left}
use Rattle.plan_walk.specs.StepEnds.{run_starts}
use Rattle.chaos_entering.specs.Behind.{stages_behind, stages_end}
use Rattle.chaos_node.specs.Changing.{ChangesRight, changed_by}
use Rattle.chaos_entering.specs.Coming.{IsComing, EntersAs}
use Rattle.chaos_entering.specs.Enters.{EntersGather}
use Rattle.chaos_node.specs.Inspections.{EndsPhase, HasInspected}
use Rattle.chaos_holdings.specs.Keeping.{prepared_by, prepared_in}
use Rattle.chaos_entering.specs.Standing.{session_in}
use Rattle.chaos_entering.specs.State.{NodeState}
use Rattle.chaos_node.specs.declared.change.Change.{Change}
use Rattle.chaos_holdings.specs.declared.effect.Effect.TheVariants.{Inspects}
use Rattle.chaos_entering.specs.declared.entered.Entered.{Entered}
use Rattle.chaos_holdings.specs.declared.session.Session.{Session}
use Rattle.chaos_node.proofs.InspectionComes.{steps_at}
use Rattle.chaos_node.proofs.InspectionGoesOn.{next_phase_is}
use Rattle.chaos_node.proofs.InspectionSteps.{is_past, left_passes}

abbrev kept_of : LoopRecord → Prepared → Kept
kept_of latest prepared = record { latest = latest; prepared = Some prepared }

-- what it changes
abbrev pub keeps_with : List Stamps → LoopRecord → Prepared → Entered → Change
keeps_with tables latest prepared e = record { effect = Inspects tables (Some (kept_of latest prepared)); line = []; entered = e }

-- ---- what is kept of one FORALL

get_set : {A : Type 0} (xs : List A) (k : ℕ) (y : A) → k < length xs → slice_get (slice_set xs k y) k ≡ Some y
get_set [] k y less = absurd (omega arith)
get_set (x ∷ xs) zero y less = refl
get_set (x ∷ xs) (suc k) y less = get_set xs k y (omega (arith, less))

zip_length : {A B : Type 0} (P : A → B → Type 0) (xs : List A) (ys : List B) → AllZip P xs ys → length ys ≡ length xs
zip_length P [] [] h = refl
zip_length P [] (y ∷ ys) h = absurd h
zip_length P (x ∷ xs) [] h = absurd h
zip_length P (x ∷ xs) (y ∷ ys) h = ap suc (zip_length P xs ys h.1)

length_range : (low k : ℕ) → length (range_with_len low k) ≡ k
length_range low zero = refl
length_range low (suc k) = ap suc (length_range (low + 1) k)

kept_there : (c : Checked) (P : ℕ → Option Kept → Type 0) (kept : List (Option Kept)) (site : ℕ) (latest : LoopRecord) (x : Prepared)
    → EachLoop c P kept → site < length c.sites
    → prepared_in (slice_set kept site (Some (kept_of latest x))) site ≡ Some x
kept_there c P kept site latest x each less =
    let size = zip_length P (below (length c.sites)) kept each ∙ length_range 0 (length c.sites) in
    ap (option_and_then prepared_by) (get_set kept site (Some (kept_of latest x)) (omega (arith, less, size)))

-- ---- the execution

no_offence_ready : (x : Inspection) (owners : List (List ℕ)) (store : List (List ℤ)) (tables : List Stamps) (s : InspectStage)
    → phase_of s ≡ None → offence_in s ≡ None
    → InHand x owners store tables s → HasNoOffence x store
no_offence_ready x owners store tables (Seeking asking) e none h = cc
no_offence_ready x owners store tables (Telling asking asked) e none h = cc
no_offence_ready x owners store tables (Fetching level) e none h = cc
no_offence_ready x owners store tables (Answering level asked) e none h = cc
no_offence_ready x owners store tables Voting e none h = cc
no_offence_ready x owners store tables (Stopped offence) e none h = cc
no_offence_ready x owners store tables (Homing told) e none h = cc
no_offence_ready x owners store tables (Put entering) e none h = cc
no_offence_ready x owners store tables (Ready prepared) e none h = h.0

step_of : (c : Checked) (step : Step) → IsStepIn c step → IsStepOf c step
step_of c (Distribute d form) h = h.1
step_of c (Print array) h = h
step_of c (Forall site turn) h = h

steps_of : (c : Checked) (steps : List Step) → AllByRecursion (IsStepIn c) steps → AllByRecursion (IsStepOf c) steps
steps_of c [] h = tt
steps_of c (step ∷ steps) h = (step_of c step h.0, steps_of c steps h.1)

-- what is made at the end of an inspection
abbrev pub IsMade : Inspection → Prepared → Type 0
IsMade i prepared =
    (owners : List (List ℕ)) (store : List (List ℤ)) (tables : List Stamps) → IsInspecting i owners store tables
    → Fits i.facts owners store (slots_entered i.facts tables) i.me prepared × IsEntered i.facts owners store i.me tables

inspected_now : (i : Inspection) (f : LoopFacts) (owners : List (List ℕ)) (store : List (List ℤ)) (p : ℕ) (tables : List Stamps)
    (prepared : Prepared) → i.facts ≡ f → i.me ≡ p
    → Fits i.facts owners store (slots_entered i.facts tables) i.me prepared × IsEntered i.facts owners store i.me tables
    → IsInspected f owners store p tables prepared
inspected_now i f owners store p tables prepared same me h =
    subst (λ (g : LoopFacts). IsInspected g owners store p tables prepared) same
    (subst (λ q. IsInspected i.facts owners store q tables prepared) me (record { fits = h.0; entered = h.1 }))

never_vote : (f : LoopFacts) (l : LoopPhase) → phase_after f l ≡ None → l ≡ phase.Vote → ⊥
never_vote f l e vote = none (sym (ap (phase_after f) vote) ∙ e)
  where
    none : {x : LoopPhase} → Some x ≡ None → ⊥
    none e = cc

pub inspection_is_over : (v : View NodeState) (i : Inspection) (tables : List Stamps) (latest : LoopRecord) (prepared : Prepared)
    (e : Entered) (left : ℕ)
    → OthersStayPrepared → RecordsAreExact → StepsAreIn → EndsPhase v i tables → offence_in i.stage ≡ None → phase_of i.stage ≡ None
    → latest ≡ record_in v.state.holdings.records v.state.session.checked v.state.at.site i.facts.turn → IsMade i prepared
    → left + 1 ≡ v.face.left
    → EntersGather v.state.session v.face.me v.state.at.execution v.state.at.site prepared v.state.holdings.parts left e
    → ChangesRight v (keeps_with tables latest prepared e)
inspection_is_over v i tables latest prepared e left others exact steps ends passes over noted made falls enters plan t p is less row
    holds =
    let h : HasInspected plan t p v.state i tables = ends plan t p is less row holds in
    let s = scene_in plan in
    let site = v.state.at.site in
    let step = Forall site h.turn in
    let f = loop_at s h.past site h.turn in
    let owners = owners_at s h.past in
    let store = store_at s h.past in
    let st = changed_by v.state (keeps_with tables latest prepared e) in
    let k = h.in_step.knows in
    let after : phase_after f h.present ≡ None = sym (next_phase_is f (offence_in i.stage) (phase_of i.stage) h.present passes h.next)
    ∙ over in
    let stages = stages_end f h.present after in
    let left_is = left_passes plan h.past site h.turn h.rest h.present (stages_behind f h.present) h.in_step.places
    (λ vote. absurd (never_vote f h.present after vote)) in
    let past = is_past plan t p (present_phase plan h.past step h.rest (stage.InLoop h.present) (stages_behind f h.present))
    (left_in plan h.past step h.rest (stages_behind f h.present)) v.face row (h.in_step.phases_are ∙ left_is) in
    let inspected : IsInspected f owners store p tables prepared = inspected_now i f owners store p tables prepared h.facts h.node
    (made owners store tables h.inspecting) in
    let record_is : latest ≡ record_at plan.checked h.past site h.turn =
    noted ∙ ap (λ (x : Session). record_in v.state.holdings.records x.checked site i.facts.turn) h.session
    ∙ ap (λ (g : LoopFacts). record_in v.state.holdings.records plan.checked site g.turn) h.facts
    ∙ exact plan.checked h.past site h.turn v.state.holdings.records k.stands.records in
    let stay = others s h.past site h.turn v.state.holdings.tables tables is.checked h.known h.others in
    let keeps = subst (λ r. EachLoop plan.checked (KeepsInStep s (run_in plan) h.past step (stage.InLoop phase.Gather) p tables)
    (slice_set v.state.holdings.kept site (Some (kept_of r prepared)))) (sym record_is)
    (inspection_ends s (run_in plan) h.past site h.turn h.present p v.state.holdings.tables tables v.state.holdings.kept prepared
    h.inspects h.early stay inspected k.keeps) in
    let coming : IsComing plan h.past step h.rest (stage.InLoop phase.Gather) (stage.InLoop phase.Scatter ∷ []) p left st = record {
      session = h.session;
      node = less;
      places = h.in_step.places;
      left_is = let z : whole_left plan h.past step h.rest (stages_behind f h.present) ≡ whole_left plan h.past step h.rest
          (stage.InLoop phase.Gather ∷ stage.InLoop phase.Scatter ∷ [])
          = ap (whole_left plan h.past step h.rest) stages in omega (arith, z, past.left, falls);
      knows = record {
        stands = record {
          parts = k.stands.parts;
          elements = k.stands.elements;
          records = k.stands.records;
          pages = k.stands.pages;
          counts = k.stands.counts;
          places = h.places;
        };
        keeps = keeps;
        inspected = k.inspected;
        text = append-nil v.state.text ∙ k.text;
        refused = k.refused;
        sized = h.sized;
      };
    } in
    let can : CanExecute s h.past site h.turn p tables prepared = record {
      some_nodes = is.some;
      checked = is.checked;
      start = subst (FitsStore plan.checked.arrays) (sym (run_starts plan).store) is.store;
      history = h.in_step.places.history;
      steps = steps_of plan.checked h.past (steps_at steps plan h.past (step ∷ h.rest) is.checked h.in_step.places).0;
      known = h.known;
      sound = ap (λ (g : LoopFacts). offence_of g.arrays g.site g.turn store) (sym h.facts)
          ∙ no_offence_ready i owners store tables i.stage over passes h.inspecting.hand;
      inspected = inspected;
    } in
    let there = kept_there plan.checked (KeepsInStep s (run_in plan) h.past step (stage.InLoop h.present) p v.state.holdings.tables)
    v.state.holdings.kept site latest prepared k.keeps h.known in
    let me : p ≡ v.face.me = sym past.me in
    subst (λ phases. EntersAs plan phases p e st) (sym (past.behind ∙ ap (left_in plan h.past step h.rest) stages))
    (subst (λ q. EntersAs plan (left_in plan h.past step h.rest (stage.InLoop phase.Gather ∷ stage.InLoop phase.Scatter ∷ [])) q e st)
    past.me
    (enters plan h.past h.rest h.turn st is h.session h.in_step.execution
    (subst (λ q. IsComing plan h.past step h.rest (stage.InLoop phase.Gather) (stage.InLoop phase.Scatter ∷ []) q left st) me coming)
    h.some there (subst (λ q. CanExecute s h.past site h.turn q tables prepared) me can) refl))
