-- The start of a run, the end of a step that isn't refused, and a step without phases.
use Rattle.std.specs.Prelude.{◌≡◌, refl, ℕ, ◌+◌, ℤ, Bool, true, false, if◌then◌else◌, List, [], ◌∷◌, ◌++◌, length, map, reverse, drop, take}
use Rattle.std.specs.Prelude.{slice_get, Option, Some, None}
use Rattle.std.specs.Option.{option_map}
use Rattle.std.proofs.Common.{ap, sym, ◌∙◌, arith, append_assoc, append-nil, length-append}
use Rattle.std.proofs.lemmas.Grind.{reverse_onto}
use Rattle.std.proofs.lemmas.List.{length-reverse, reverse-reverse}
use Rattle.fd_words.specs.Lists.{list_at}
use Rattle.fd_words.specs.declared.place.Offence.{Offence}
use Rattle.chaos_dist.specs.declared.step_form.StepForm.{StepForm}
use Rattle.chaos_dist.specs.declared.step_form.StepForm.TheVariants.{Regular, Map}
use Rattle.fd_program.specs.Layouts.{store_at, facts_at, loop_at}
use Rattle.fd_program.specs.Loops.{offence_of}
use Rattle.fd_program.specs.Past.{is_repeat, inspects_at}
use Rattle.fd_program.specs.Reports.{executed_of}
use Rattle.fd_program.specs.RunLaws.{reached_next, reached_start}
use Rattle.fd_program.specs.Runs.{Run, run_past, run_from, stores_of, refusal_of, after_step}
use Rattle.fd_program.specs.Trace.{trace_of, site_at, is_empty_turn}
use Rattle.fd_program.specs.declared.checked.Checked.{Checked}
use Rattle.fd_program.specs.declared.loop_facts.HomeRule.{HomeRule}
use Rattle.fd_program.specs.declared.loop_facts.LoopFacts.{LoopFacts}
use Rattle.fd_program.specs.declared.refused.Refused.{Refused}
use Rattle.fd_program.specs.declared.trace.LoopTurn.{LoopTurn}
use Rattle.fd_program.specs.declared.trace.Step.{Step}
use Rattle.fd_program.specs.declared.trace.Step.TheVariants.{Distribute, Print, Forall}
use Rattle.plan_loop.specs.LoopLetters.{phases_to_vote, phases_from_vote, executor_phases}
use Rattle.plan_loop.specs.declared.loop_phase.LoopPhase.{LoopPhase}
use Rattle.plan_run.specs.CutLaws.{first_store}
use Rattle.plan_run.specs.OwnerLaws.{is_quiet, quiet_keeps_store}
use Rattle.plan_run.specs.Phases.{moving_stages, loop_stages, stages_of}
use Rattle.plan_run.specs.Rows.{RunPlan, run_in, scene_in, phases_in}
use Rattle.plan_run.specs.declared.stage.Stage.TheVariants as stage
use Rattle.plan_walk.specs.Places.{StandsBetween, cut_in, left_from, left_in, run_left, stages_in, whole_from, whole_in}

-- ---- statements

-- At the start no step is behind, all phases are left, and the values are those before the run.
pub record StandsAtStart (plan : RunPlan) : Type 0 where
  pub stands : StandsBetween plan [] (trace_of plan.checked)
  pub left : phases_in plan ≡ left_from plan [] (trace_of plan.checked)
  pub store : store_at (scene_in plan) [] ≡ plan.store

abbrev pub RunStarts : Type 0
RunStarts = (plan : RunPlan) → StandsAtStart plan

-- The steps that are left are those of the trace from the number of the present step on.
pub record HasSteps (plan : RunPlan) (past rest : List Step) : Type 0 where
  pub left : drop (length past) (trace_of plan.checked) ≡ rest
  pub count : length past + length rest ≡ length (trace_of plan.checked)
  pub next : slice_get (trace_of plan.checked) (length past) ≡ slice_get rest 0
  pub before : past ≡ reverse (take (length past) (trace_of plan.checked))

abbrev pub StepsAreKnown : Type 0
StepsAreKnown = (plan : RunPlan) (past rest : List Step) → StandsBetween plan past rest → HasSteps plan past rest

-- A step that isn't refused: once no stage of it is left, the node is before the next.
pub record EndsStep (plan : RunPlan) (past : List Step) (step : Step) (rest : List Step) : Type 0 where
  pub stands : StandsBetween plan (step ∷ past) rest
  pub left : left_in plan past step rest [] ≡ left_from plan (step ∷ past) rest
  pub store : store_at (scene_in plan) (step ∷ past) ≡ after_step plan.checked step (store_at (scene_in plan) past)

abbrev pub StepsEnd : Type 0
StepsEnd =
    (plan : RunPlan) (past : List Step) (step : Step) (rest : List Step) → StandsBetween plan past (step ∷ rest)
    → refusal_of plan.checked step (store_at (scene_in plan) past) ≡ None → EndsStep plan past step rest

-- A step without phases changes nothing, is never refused, and the same phases are left behind it.
pub record PassesQuietly (plan : RunPlan) (past : List Step) (step : Step) (rest : List Step) : Type 0 where
  pub quiet : is_quiet plan.checked past step ≡ true
  pub refusal : refusal_of plan.checked step (store_at (scene_in plan) past) ≡ None
  pub stands : StandsBetween plan (step ∷ past) rest
  pub left : left_from plan past (step ∷ rest) ≡ left_from plan (step ∷ past) rest
  pub whole : whole_from plan past (step ∷ rest) ≡ whole_from plan (step ∷ past) rest
  pub store : store_at (scene_in plan) (step ∷ past) ≡ store_at (scene_in plan) past

abbrev pub QuietStepsPass : Type 0
QuietStepsPass =
    (plan : RunPlan) (past : List Step) (step : Step) (rest : List Step) → StandsBetween plan past (step ∷ rest)
    → stages_in plan past step ≡ [] → PassesQuietly plan past step rest

-- The stages of a step.
pub record HasStages (plan : RunPlan) (past : List Step) : Type 0 where
  pub repeats : (d : ℕ) (form : StepForm) → is_repeat plan.checked past d form ≡ true → stages_in plan past (Distribute d form) ≡ []
  pub moves : (d : ℕ) (form : StepForm) → is_repeat plan.checked past d form ≡ false → stages_in plan past (Distribute d form)
      ≡ moving_stages form
  pub prints : (array : ℕ) → stages_in plan past (Print array) ≡ stage.Print ∷ []
  pub empty : (site : ℕ) (turn : LoopTurn) → is_empty_turn turn ≡ true → stages_in plan past (Forall site turn) ≡ []
  pub loops : (site : ℕ) (turn : LoopTurn) → is_empty_turn turn ≡ false
      → stages_in plan past (Forall site turn) ≡ loop_stages (loop_at (scene_in plan) past site turn)
      (inspects_at plan.checked past site turn)

abbrev pub StagesAreKnown : Type 0
StagesAreKnown = (plan : RunPlan) (past : List Step) → HasStages plan past

-- ---- the start

pub run_starts : RunStarts
run_starts plan =
    let c = plan.checked in
    let begins : store_at (scene_in plan) [] ≡ plan.store = first_store c (trace_of c) plan.store in
    let same : run_in plan ≡ run_left plan [] (trace_of c) = ap (run_from c (trace_of c)) (sym begins) in
    record {
      stands = record {
        trace = refl;
        reached = reached_start c plan.nodes plan.rule plan.store;
        history = tt;
        completed = tt;
        refused = ap (λ (run : Run). run.refused) same;
        executed = ap executed_of same ∙ sym (append-nil (executed_of (run_left plan [] (trace_of c))));
        last = ap (λ (run : Run). run.last) same;
      };
      left = refl;
      store = begins;
    }

-- ---- the steps that are left

drop_front : {A : Type 0} (xs ys : List A) → drop (length xs) (xs ++ ys) ≡ ys
drop_front [] ys = refl
drop_front (x ∷ xs) ys = drop_front xs ys

get_behind : {A : Type 0} (xs ys : List A) → slice_get (xs ++ ys) (length xs) ≡ slice_get ys 0
get_behind [] ys = refl
get_behind (x ∷ xs) ys = get_behind xs ys

take_front : {A : Type 0} (xs ys : List A) → take (length xs) (xs ++ ys) ≡ xs
take_front [] ys = refl
take_front {A} (x ∷ xs) ys = ap (λ (l : List A). x ∷ l) (take_front xs ys)

pub steps_are_known : StepsAreKnown
steps_are_known plan past rest h =
    let trace = trace_of plan.checked in
    let size : length (reverse past) ≡ length past = length-reverse past in
    record {
      left = ap (λ n. drop n trace) (sym size) ∙ ap (drop (length (reverse past))) (sym h.trace) ∙ drop_front (reverse past) rest;
      count = omega (arith, size, length-append (reverse past) rest, ap length h.trace);
      next = ap (slice_get trace) (sym size) ∙ ap (λ l. slice_get l (length (reverse past))) (sym h.trace) ∙ get_behind (reverse past) rest;
      before = sym (ap (λ n. reverse (take n trace)) (sym size) ∙ ap (λ l. reverse (take (length (reverse past)) l)) (sym h.trace)
          ∙ ap reverse (take_front (reverse past) rest) ∙ reverse-reverse past);
    }

-- ---- the end of a step

abbrev run_with : Step → List (List ℤ) → Run → Run
run_with step store run = record { executed = (step, store) ∷ run.executed; refused = run.refused; last = run.last }

passed : (step : Step) (store : List (List ℤ)) (o : Option Refused) (run : Run) → o ≡ None
    → run_past step store o run ≡ run_with step store run
passed step store None run e = refl
passed step store (Some r) run e = cc

pub steps_end : StepsEnd
steps_end plan past step rest h none =
    let c = plan.checked in
    let s = scene_in plan in
    let next = reached_next s past step rest h.reached none in
    let later = run_left plan (step ∷ past) rest in
    let goes : run_left plan past (step ∷ rest) ≡ run_with step (store_at s past) later
    = passed step (store_at s past) (refusal_of c step (store_at s past)) (run_from c rest (after_step c step (store_at s past))) none
    ∙ ap (λ store. run_with step (store_at s past) (run_from c rest store)) (sym next.0) in
    record {
      stands = record {
        trace = ap (λ l. l ++ rest) (reverse_onto past step []) ∙ append_assoc (reverse past) (step ∷ []) rest ∙ h.trace;
        reached = next.1;
        history = (next.0, h.history);
        completed = (none, h.completed);
        refused = h.refused ∙ ap (λ (run : Run). run.refused) goes;
        executed = h.executed ∙ ap (λ run. executed_of run ++ past) goes
            ∙ ap (λ l. l ++ past) (reverse_onto (map (λ (x : Step × List (List ℤ)). x.0) later.executed) step [])
            ∙ append_assoc (executed_of later) (step ∷ []) past;
        last = h.last ∙ ap (λ (run : Run). run.last) goes;
      };
      left = refl;
      store = next.0;
    }

-- ---- stages

pub stages_are_known : StagesAreKnown
stages_are_known plan past = record {
  repeats = λ d form e. ap (λ b. if b then [] else moving_stages form) e;
  moves = λ d form e. ap (λ b. if b then [] else moving_stages form) e;
  prints = λ array. refl;
  empty = λ site turn e. ap (λ b. if b then [] else loop_stages (loop_at (scene_in plan) past site turn)
      (inspects_at plan.checked past site turn)) e;
  loops = λ site turn e. ap (λ b. if b then [] else loop_stages (loop_at (scene_in plan) past site turn)
      (inspects_at plan.checked past site turn)) e;
}

-- ---- a step without stages

some_stages : (xs : List LoopPhase) → map stage.InLoop (xs ++ executor_phases) ≡ [] → ⊥
some_stages [] e = cc
some_stages (x ∷ xs) e = cc

some_in_loop : (f : LoopFacts) (b : Bool) → loop_stages f b ≡ [] → ⊥
some_in_loop f b e = some_stages (if b then phases_to_vote f ++ phases_from_vote f else []) e

some_in_move : (form : StepForm) → moving_stages form ≡ [] → ⊥
some_in_move (Regular shape) e = cc
some_in_move (Map array) e = cc

quiet_is : (c : Checked) (nodes : ℕ) (rule : HomeRule) (past : List Step) (step : Step) → stages_of c nodes rule past step ≡ []
    → is_quiet c past step ≡ true
quiet_is c nodes rule past (Distribute d form) e = by (is_repeat c past d form) e
  where
    by : (b : Bool) → (if b then [] else moving_stages form) ≡ [] → b ≡ true
    by true e = refl
    by false e = absurd (some_in_move form e)
quiet_is c nodes rule past (Print array) e = refl
quiet_is c nodes rule past (Forall site turn) e = by (is_empty_turn turn) e
  where
    f : LoopFacts
    f = facts_at c nodes rule past site turn

    by : (b : Bool) → (if b then [] else loop_stages f (inspects_at c past site turn)) ≡ [] → b ≡ true
    by true e = refl
    by false e = absurd (some_in_loop f (inspects_at c past site turn) e)

-- it isn't refused
quiet_passes : (c : Checked) (past : List Step) (step : Step) (store : List (List ℤ)) → is_quiet c past step ≡ true
    → refusal_of c step store ≡ None
quiet_passes c past (Distribute d form) store e = refl
quiet_passes c past (Print array) store e = refl
quiet_passes c past (Forall site turn) store e =
    ap (λ b. option_map (λ (o : Offence). let r : Refused = record { site = site; offence = o } in r)
    (if b then None else offence_of c.arrays (site_at c.sites site) turn store)) e

pub quiet_steps_pass : QuietStepsPass
quiet_steps_pass plan past step rest h e =
    let quiet = quiet_is plan.checked plan.nodes plan.rule past step e in
    let refusal = quiet_passes plan.checked past step (store_at (scene_in plan) past) quiet in
    let ends = steps_end plan past step rest h refusal in
    let whole : whole_from plan past (step ∷ rest) ≡ whole_from plan (step ∷ past) rest =
    ap (λ stages. whole_in plan past step rest stages) e in
    record {
      quiet = quiet;
      refusal = refusal;
      stands = ends.stands;
      left = ap (cut_in plan) whole;
      whole = whole;
      store = quiet_keeps_store (scene_in plan) past step ends.stands.history quiet;
    }
