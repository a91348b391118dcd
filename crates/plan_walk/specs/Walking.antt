-- From phase to phase of a run: where the node is at phase t, and at phase t + 1.
use Rattle.std.specs.Prelude.{◌≡◌, refl, ℕ, ◌+◌, ◌<◌, Bool, true, false, not, ◌&&◌, ◌||◌, if◌then◌else◌, List, [], ◌∷◌, ◌++◌, map, drop}
use Rattle.std.specs.Prelude.{is_some, Some, None}
use Rattle.std.specs.List.{list_any}
use Rattle.std.proofs.Common.{ap, sym, ◌∙◌, subst, append_assoc, add-one}
use Rattle.bsp_core.specs.Views.{Face, ready}
use Rattle.fd_program.specs.Checks.{IsChecked}
use Rattle.fd_program.specs.Layouts.{Scene, store_at, facts_at}
use Rattle.fd_program.specs.Past.{inspects_at, inspects_step}
use Rattle.fd_program.specs.Reports.{executed_of, completed_of}
use Rattle.fd_program.specs.RunLaws.{IsHistory}
use Rattle.fd_program.specs.Runs.{refusal_of}
use Rattle.fd_program.specs.Trace.{trace_of, is_empty_turn}
use Rattle.fd_program.specs.declared.array.OutputName.{OutputName}
use Rattle.fd_program.specs.declared.checked.Checked.{Checked}
use Rattle.fd_program.specs.declared.loop_facts.HomeRule.{HomeRule}
use Rattle.fd_program.specs.declared.loop_facts.LoopFacts.{LoopFacts}
use Rattle.fd_program.specs.declared.refused.Refused.{Refused}
use Rattle.fd_program.specs.declared.trace.Step.{Step}
use Rattle.fd_program.specs.declared.trace.Step.TheVariants.{Distribute, Print, Forall}
use Rattle.plan_loop.specs.LoopLetters.{round_phases, phases_to_vote, phases_from_vote, executor_phases}
use Rattle.plan_loop.specs.declared.loop_phase.Level.TheVariants.{First, Second}
use Rattle.plan_loop.specs.declared.loop_phase.LoopPhase.{LoopPhase}
use Rattle.plan_loop.specs.declared.loop_phase.LoopPhase.TheVariants as phase
use Rattle.plan_run.specs.Held.{Held, AtEnd, AtLeft, AtPhase}
use Rattle.plan_run.specs.Phases.{Phase, cut_phases, is_vote, loop_stages, stages_of}
use Rattle.plan_run.specs.Rows.{RunPlan, face_left, node_row, phases_in, run_in, scene_in}
use Rattle.plan_run.specs.declared.stage.Stage.{Stage}
use Rattle.plan_run.specs.declared.stage.Stage.TheVariants as stage
use Rattle.plan_walk.specs.LetterLaws.{letters_come_in, letters_for}
use Rattle.plan_walk.specs.PhaseBegins.{only_inspections_stop, phases_follow, rows_follow, steps_are_over, votes_pass}
use Rattle.fd_program.specs.RunLaws.{drop_first}
use Rattle.plan_walk.specs.PhaseBegins.{votes_stop}
use Rattle.plan_walk.specs.Places.{StandsBetween, left_from, left_in, output_phase, outputs_left, present_phase, stages_in, whole_in}
use Rattle.plan_walk.specs.StepEnds.{quiet_steps_pass, run_starts, steps_end}

-- ---- places

-- phase t is the first of these steps, or of the OUTPUT arrays where no step is left
pub record IsBeforeStep (plan : RunPlan) (t : ℕ) (past rest : List Step) : Type 0 where
  pub stands : StandsBetween plan past rest
  pub left : drop t (phases_in plan) ≡ left_from plan past rest

-- phase t is this stage of a step, with the stages `behind` and those that are left; where a vote is behind, the step isn't refused
pub record IsInStep (plan : RunPlan) (t : ℕ) (past : List Step) (step : Step) (rest : List Step) (behind : List Stage) (present : Stage)
    (stages : List Stage) : Type 0 where
  pub stands : StandsBetween plan past (step ∷ rest)
  pub all : behind ++ present ∷ stages ≡ stages_in plan past step
  pub left : drop t (phases_in plan) ≡ left_in plan past step rest (present ∷ stages)
  pub passed : list_any is_vote behind ≡ true → refusal_of plan.checked step (store_at (scene_in plan) past) ≡ None

-- phase t is the first of these OUTPUT arrays, from the j-th on, or the run is over; the completed steps are `past`
pub record IsBeforeOutputs (plan : RunPlan) (t : ℕ) (past : List Step) (j : ℕ) (os : List OutputName) : Type 0 where
  pub outputs : drop j plan.checked.outputs ≡ os
  pub left : drop t (phases_in plan) ≡ outputs_left plan past j os
  pub history : IsHistory (scene_in plan) past
  pub completed : completed_of (run_in plan) ≡ past
  pub last : (run_in plan).last ≡ store_at (scene_in plan) past

-- ---- statements

-- p as it was when phase f began, with all letters of the phase sent and taken
abbrev pub face_done : Scene → Phase → ℕ → Face
face_done s f p = record { me = p; count = s.nodes; left = f.left; out = []; due = []; got = letters_for s f p }

-- phase t is f: the rows are its rows, at its end the letters due in it have come, and what a node holds at phase t is what it holds at f
pub record IsPhase (plan : RunPlan) (t : ℕ) (f : Phase) : Type 0 where
  pub row : (p : ℕ) → node_row plan t p ≡ face_left (scene_in plan) (f ∷ []) p
  pub done : (p : ℕ) → p < plan.nodes → ready (node_row plan t) p ≡ face_done (scene_in plan) f p
  pub held : (p : ℕ) (v : Held) → AtLeft (scene_in plan) (run_in plan) (drop t (phases_in plan)) p v
      → AtPhase (scene_in plan) (run_in plan) f p v
  pub holds : (p : ℕ) (v : Held) → AtPhase (scene_in plan) (run_in plan) f p v
      → AtLeft (scene_in plan) (run_in plan) (drop t (phases_in plan)) p v

-- no phase t: the run is over
pub record HasWalked (plan : RunPlan) (t : ℕ) (past : List Step) : Type 0 where
  pub row : (p : ℕ) → node_row plan t p ≡ face_left (scene_in plan) [] p
  pub held : (p : ℕ) (v : Held) → AtLeft (scene_in plan) (run_in plan) (drop t (phases_in plan)) p v
      → AtEnd (scene_in plan) (run_in plan) past p v
  pub holds : (p : ℕ) (v : Held) → AtEnd (scene_in plan) (run_in plan) past p v
      → AtLeft (scene_in plan) (run_in plan) (drop t (phases_in plan)) p v

abbrev pub StartIsBeforeStep : Type 0
StartIsBeforeStep = (plan : RunPlan) → IsBeforeStep plan 0 [] (trace_of plan.checked)

-- a step without phases is passed over
abbrev pub QuietIsPassed : Type 0
QuietIsPassed =
    (plan : RunPlan) (t : ℕ) (past : List Step) (step : Step) (rest : List Step) → IsBeforeStep plan t past (step ∷ rest)
    → stages_in plan past step ≡ [] → IsBeforeStep plan t (step ∷ past) rest

-- another begins
abbrev pub StepIsEntered : Type 0
StepIsEntered =
    (plan : RunPlan) (t : ℕ) (past : List Step) (step : Step) (rest : List Step) (first : Stage) (stages : List Stage)
    → IsBeforeStep plan t past (step ∷ rest)
    → stages_in plan past step ≡ first ∷ stages → IsInStep plan t past step rest [] first stages

-- the present stage
abbrev pub StageIsPhase : Type 0
StageIsPhase =
    (plan : RunPlan) (t : ℕ) (past : List Step) (step : Step) (rest : List Step) (behind : List Stage) (present : Stage)
    (stages : List Stage)
    → IsInStep plan t past step rest behind present stages → IsPhase plan t (present_phase plan past step rest present stages)

-- behind a stage that isn't a vote the next one comes
abbrev pub StageFollows : Type 0
StageFollows =
    (plan : RunPlan) (t : ℕ) (past : List Step) (step : Step) (rest : List Step) (behind : List Stage) (present next : Stage)
    (stages : List Stage)
    → IsInStep plan t past step rest behind present (next ∷ stages) → is_vote present ≡ false
    → IsInStep plan (t + 1) past step rest (behind ++ present ∷ []) next stages

-- so it does behind a vote where the step isn't refused
abbrev pub StageFollowsVote : Type 0
StageFollowsVote =
    (plan : RunPlan) (t : ℕ) (past : List Step) (step : Step) (rest : List Step) (behind : List Stage) (present next : Stage)
    (stages : List Stage)
    → IsInStep plan t past step rest behind present (next ∷ stages) → refusal_of plan.checked step (store_at (scene_in plan) past) ≡ None
    → IsInStep plan (t + 1) past step rest (behind ++ present ∷ []) next stages

-- where it is refused the OUTPUT arrays come
pub record IsStopped (plan : RunPlan) (t : ℕ) (past : List Step) (step : Step) (r : Refused) : Type 0 where
  pub outputs : IsBeforeOutputs plan t past 0 plan.checked.outputs
  pub refused : (run_in plan).refused ≡ Some r
  pub executed : executed_of (run_in plan) ≡ step ∷ past

abbrev pub OutputsFollowVote : Type 0
OutputsFollowVote =
    (plan : RunPlan) (t : ℕ) (past : List Step) (step : Step) (rest : List Step) (behind stages : List Stage) (r : Refused)
    → IsInStep plan t past step rest behind (stage.InLoop phase.Vote) stages
    → refusal_of plan.checked step (store_at (scene_in plan) past) ≡ Some r
    → IsStopped plan (t + 1) past step r

-- behind the last stage the step is completed, and the next comes
pub record IsCompleted (plan : RunPlan) (t : ℕ) (past : List Step) (step : Step) (rest : List Step) : Type 0 where
  pub next : IsBeforeStep plan t (step ∷ past) rest
  pub refusal : refusal_of plan.checked step (store_at (scene_in plan) past) ≡ None

abbrev pub StepFollows : Type 0
StepFollows =
    (plan : RunPlan) (t : ℕ) (past : List Step) (step : Step) (rest : List Step) (behind : List Stage) (present : Stage)
    → IsChecked plan.checked
    → IsInStep plan t past step rest behind present [] → is_vote present ≡ false → IsCompleted plan (t + 1) past step rest

-- behind the last step the OUTPUT arrays come
pub record AreExecuted (plan : RunPlan) (t : ℕ) (past : List Step) : Type 0 where
  pub outputs : IsBeforeOutputs plan t past 0 plan.checked.outputs
  pub refused : (run_in plan).refused ≡ None
  pub executed : executed_of (run_in plan) ≡ past

abbrev pub OutputsFollowSteps : Type 0
OutputsFollowSteps = (plan : RunPlan) (t : ℕ) (past : List Step) → IsBeforeStep plan t past [] → AreExecuted plan t past

abbrev pub OutputIsPhase : Type 0
OutputIsPhase =
    (plan : RunPlan) (t : ℕ) (past : List Step) (j : ℕ) (o : OutputName) (os : List OutputName) → IsBeforeOutputs plan t past j (o ∷ os)
    → IsPhase plan t (output_phase plan past j o os)

abbrev pub OutputFollows : Type 0
OutputFollows =
    (plan : RunPlan) (t : ℕ) (past : List Step) (j : ℕ) (o : OutputName) (os : List OutputName) → IsBeforeOutputs plan t past j (o ∷ os)
    → IsBeforeOutputs plan (t + 1) past (j + 1) os

abbrev pub RunIsOver : Type 0
RunIsOver = (plan : RunPlan) (t : ℕ) (past : List Step) (j : ℕ) → IsBeforeOutputs plan t past j [] → HasWalked plan t past

-- ---- between the steps

pub start_is_before_step : StartIsBeforeStep
start_is_before_step plan = let starts = run_starts plan in record { stands = starts.stands; left = starts.left }

pub quiet_is_passed : QuietIsPassed
quiet_is_passed plan t past step rest h e =
    let passes = quiet_steps_pass plan past step rest h.stands e in
    record { stands = passes.stands; left = h.left ∙ passes.left }

pub step_is_entered : StepIsEntered
step_is_entered plan t past step rest first stages h e = record {
  stands = h.stands;
  all = sym e;
  left = h.left ∙ ap (left_in plan past step rest) e;
  passed = λ vote. cc;
}

-- ---- the present phase

is_phase : (plan : RunPlan) (t : ℕ) (f : Phase) (later : List Phase) → drop t (phases_in plan) ≡ f ∷ later → IsPhase plan t f
is_phase plan t f later e = record {
  row = λ p. ap (λ fs. face_left (scene_in plan) fs p) e;
  done = λ p less. ap (λ fs. ready (face_left (scene_in plan) fs) p) e ∙ letters_come_in (scene_in plan) f later p less;
  held = λ p v h. subst (λ fs. AtLeft (scene_in plan) (run_in plan) fs p v) e h;
  holds = λ p v h. subst (λ fs. AtLeft (scene_in plan) (run_in plan) fs p v) (sym e) h;
}

first_left : (c : Checked) (f : Phase) (fs : List Phase) (past : List Step) (b : Bool) → (later : List Phase)
    × (cut_phases c (f ∷ fs) past b ≡ f ∷ later)
first_left c f fs past false = (fs, refl)
first_left c f fs past true = (_, refl)

pub stage_is_phase : StageIsPhase
stage_is_phase plan t past step rest behind present stages h =
    let f = present_phase plan past step rest present stages in
    let first = first_left plan.checked f (whole_in plan past step rest stages) (completed_of (run_in plan))
    (is_some (run_in plan).refused) in
    is_phase plan t f first.0 (h.left ∙ first.1)

-- ---- within a step

any_push : (behind : List Stage) (present : Stage) → is_vote present ≡ false → list_any is_vote (behind ++ present ∷ [])
    ≡ list_any is_vote behind
any_push [] present e = ap (λ b. b || false) e
any_push (x ∷ behind) present e = ap (λ b. is_vote x || b) (any_push behind present e)

one_behind : (behind : List Stage) (present next : Stage) (stages : List Stage) → (behind ++ present ∷ []) ++ next ∷ stages ≡ behind
    ++ present ∷ next ∷ stages
one_behind behind present next stages = append_assoc behind (present ∷ []) (next ∷ stages)

pub stage_follows : StageFollows
stage_follows plan t past step rest behind present next stages h e = record {
  stands = h.stands;
  all = one_behind behind present next stages ∙ h.all;
  left = (rows_follow plan t _ _ (h.left ∙ phases_follow plan past step rest present (next ∷ stages) e)).left;
  passed = λ vote. h.passed (sym (any_push behind present e) ∙ vote);
}

pub stage_follows_vote : StageFollowsVote
stage_follows_vote plan t past step rest behind present next stages h none = record {
  stands = h.stands;
  all = one_behind behind present next stages ∙ h.all;
  left = (rows_follow plan t _ _ (h.left ∙ votes_pass plan past step rest present (next ∷ stages) h.stands none)).left;
  passed = λ vote. none;
}

pub outputs_follow_vote : OutputsFollowVote
outputs_follow_vote plan t past step rest behind stages r h refusal =
    let stops = votes_stop plan past step rest stages r h.stands refusal in
    record {
      outputs = record {
        outputs = refl;
        left = (rows_follow plan t _ _ (h.left ∙ stops.left)).left;
        history = h.stands.history;
        completed = stops.completed;
        last = stops.last;
      };
      refused = stops.refused;
      executed = stops.executed;
    }

-- ---- the end of a step

any_left : (xs ys : List LoopPhase) → list_any is_vote (map stage.InLoop xs) ≡ true → list_any is_vote (map stage.InLoop (xs ++ ys)) ≡ true
any_left [] ys e = cc
any_left (x ∷ xs) ys e = by (is_vote (stage.InLoop x)) e (any_left xs ys)
  where
    by : (b : Bool) → (b || list_any is_vote (map stage.InLoop xs)) ≡ true
        → (list_any is_vote (map stage.InLoop xs) ≡ true → list_any is_vote (map stage.InLoop (xs ++ ys)) ≡ true)
        → (b || list_any is_vote (map stage.InLoop (xs ++ ys))) ≡ true
    by true e more = refl
    by false e more = more e

any_right : (xs ys : List LoopPhase) → list_any is_vote (map stage.InLoop ys) ≡ true → list_any is_vote (map stage.InLoop (xs ++ ys)) ≡ true
any_right [] ys e = e
any_right (x ∷ xs) ys e = by (is_vote (stage.InLoop x)) (any_right xs ys e)
  where
    by : (b : Bool) → list_any is_vote (map stage.InLoop (xs ++ ys)) ≡ true → (b || list_any is_vote (map stage.InLoop (xs ++ ys))) ≡ true
    by true e = refl
    by false e = e

any_inspection_votes : (f : LoopFacts) → list_any is_vote (loop_stages f true) ≡ true
any_inspection_votes f =
    any_left (phases_to_vote f ++ phases_from_vote f) executor_phases
    (any_left (phases_to_vote f) (phases_from_vote f) (any_right (round_phases f First ++ round_phases f Second) (phase.Vote ∷ []) refl))

-- a step that inspects has a vote
any_inspecting_votes : (c : Checked) (nodes : ℕ) (rule : HomeRule) (past : List Step) (step : Step) → inspects_step c past step ≡ true
    → list_any is_vote (stages_of c nodes rule past step) ≡ true
any_inspecting_votes c nodes rule past (Distribute d form) e = cc
any_inspecting_votes c nodes rule past (Print array) e = cc
any_inspecting_votes c nodes rule past (Forall site turn) e =
    let f = facts_at c nodes rule past site turn in
    ap (λ b. list_any is_vote (if b then [] else loop_stages f (inspects_at c past site turn))) (some_range (is_empty_turn turn) _ e)
    ∙ ap (λ b. list_any is_vote (loop_stages f b)) e ∙ any_inspection_votes f
  where
    some_range : (a b : Bool) → (not a && b) ≡ true → a ≡ false
    some_range false b e = refl
    some_range true b e = cc

step_not_refused : (plan : RunPlan) (t : ℕ) (past : List Step) (step : Step) (rest : List Step) (behind : List Stage) (present : Stage)
    → IsChecked plan.checked
    → IsInStep plan t past step rest behind present [] → is_vote present ≡ false
    → refusal_of plan.checked step (store_at (scene_in plan) past) ≡ None
step_not_refused plan t past step rest behind present known h e = by (inspects_step plan.checked past step) refl
  where
    by : (b : Bool) → inspects_step plan.checked past step ≡ b → refusal_of plan.checked step (store_at (scene_in plan) past) ≡ None
    by false i = only_inspections_stop plan past step rest known h.stands i
    by true i =
        h.passed
        (sym (any_push behind present e) ∙ ap (list_any is_vote) h.all ∙ any_inspecting_votes plan.checked plan.nodes plan.rule past step i)

pub step_follows : StepFollows
step_follows plan t past step rest behind present known h e =
    let none = step_not_refused plan t past step rest behind present known h e in
    let ends = steps_end plan past step rest h.stands none in
    record {
      next = record {
        stands = ends.stands;
        left = (rows_follow plan t _ _ (h.left ∙ phases_follow plan past step rest present [] e)).left;
      };
      refusal = none;
    }

-- ---- the OUTPUT arrays

pub outputs_follow_steps : OutputsFollowSteps
outputs_follow_steps plan t past h =
    let over = steps_are_over plan past h.stands in
    record {
      outputs = record {
        outputs = refl;
        left = h.left ∙ over.left;
        history = h.stands.history;
        completed = over.completed;
        last = over.last;
      };
      refused = over.refused;
      executed = over.executed;
    }

pub output_is_phase : OutputIsPhase
output_is_phase plan t past j o os h = is_phase plan t (output_phase plan past j o os) (outputs_left plan past (j + 1) os) h.left

pub output_follows : OutputFollows
output_follows plan t past j o os h = record {
  outputs = ap (λ n. drop n plan.checked.outputs) (add-one j) ∙ drop_first j plan.checked.outputs o os h.outputs;
  left = (rows_follow plan t (output_phase plan past j o os) (outputs_left plan past (j + 1) os) h.left).left;
  history = h.history;
  completed = h.completed;
  last = h.last;
}

pub run_is_over : RunIsOver
run_is_over plan t past j h = record {
  row = λ p. ap (λ fs. face_left (scene_in plan) fs p) h.left;
  held = λ p v at.
      subst (λ steps. AtEnd (scene_in plan) (run_in plan) steps p v) h.completed
      (subst (λ fs. AtLeft (scene_in plan) (run_in plan) fs p v) h.left at);
  holds = λ p v at.
      subst (λ fs. AtLeft (scene_in plan) (run_in plan) fs p v) (sym h.left)
      (subst (λ steps. AtEnd (scene_in plan) (run_in plan) steps p v) (sym h.completed) at);
}
