-- How many phases a run can have.
use Rattle.std.proofs.Common.{◌≡◌, ℕ, suc, zero, ◌+◌, ◌*◌, ◌^◌, ◌<◌, ◌≤◌, Bool, true, false, List, [], ◌∷◌, ◌++◌, if◌then◌else◌, length}
use Rattle.std.proofs.Common.{drop, arith, ◌∙◌, length-append}
use Rattle.std.specs.Prelude.{is_some}
use Rattle.std.proofs.lemmas.List.{length-map}
use Rattle.chaos_dist.specs.declared.step_form.StepForm.{StepForm}
use Rattle.chaos_dist.specs.declared.step_form.StepForm.TheVariants.{Regular, Map}
use Rattle.plan_loop.specs.LoopLetters.{asks_places, asking_phases, fetching_phases, round_phases, phases_to_vote, phases_from_vote}
use Rattle.plan_loop.specs.LoopLetters.{executor_phases}
use Rattle.plan_loop.specs.declared.loop_phase.Asking.{Asking}
use Rattle.plan_loop.specs.declared.loop_phase.Asking.TheVariants.{Indexes, Homes, References}
use Rattle.plan_loop.specs.declared.loop_phase.Level.{Level}
use Rattle.plan_loop.specs.declared.loop_phase.Level.TheVariants.{First, Second}
use Rattle.plan_loop.specs.declared.loop_phase.LoopPhase.{LoopPhase}
use Rattle.plan_loop.specs.declared.loop_phase.LoopPhase.TheVariants as phase
use Rattle.fd_program.specs.Layouts.{facts_at}
use Rattle.fd_program.specs.Past.{is_repeat, inspects_at}
use Rattle.fd_program.specs.Reports.{completed_of}
use Rattle.fd_program.specs.Trace.{trace_of, is_empty_turn}
use Rattle.fd_program.specs.declared.checked.Checked.{Checked}
use Rattle.fd_program.specs.declared.loop_facts.HomeRule.{HomeRule}
use Rattle.fd_program.specs.declared.loop_facts.LoopFacts.{LoopFacts}
use Rattle.fd_program.specs.declared.trace.Step.{Step}
use Rattle.fd_program.specs.declared.trace.Step.TheVariants.{Distribute, Print, Forall}
use Rattle.plan_run.specs.declared.stage.Stage.{Stage}
use Rattle.plan_run.specs.declared.stage.Stage.TheVariants as stage
use Rattle.plan_run.specs.Phases.{Phase, moving_stages, loop_stages, stages_of, phases_before, phases_from, output_phases, cut_phases}
use Rattle.plan_run.specs.RowLaws.{Falls, left_of, left_face, left_exact, left_cut, falls_in, exact_from, length-outputs}
use Rattle.plan_run.specs.Rows.{RunPlan, IsRunPlan, run_in, scene_in, phases_in, node_row}

-- each face counts fewer than 2^31 phases
abbrev pub LeftIsSmall : Type 0
LeftIsSmall = (plan : RunPlan) → IsRunPlan plan → (t p : ℕ) → (node_row plan t p).left < 2 ^ 31

-- ---- the stages of a step

asking_few : (f : LoopFacts) (asking : Asking) → length (asking_phases f asking) ≤ 2
asking_few f asking = by (asks_places f asking)
  where
    by : (b : Bool) → length (if b then phase.DerefAsk asking ∷ phase.DerefAnswer asking ∷ [] else []) ≤ 2
    by true = omega arith
    by false = omega arith

if_few : (b : Bool) (x y : LoopPhase) → length (if b then x ∷ y ∷ [] else []) ≤ 2
if_few true x y = omega arith
if_few false x y = omega arith

fetching_few : (f : LoopFacts) (level : Level) → length (fetching_phases f level) ≤ 2
fetching_few f level = if_few _ (phase.IndexAsk level) (phase.IndexValues level)

round_few : (f : LoopFacts) (level : Level) → length (round_phases f level) ≤ 4
round_few f level =
    omega (
      arith,
      length-append (asking_phases f (Indexes level)) (fetching_phases f level),
      asking_few f (Indexes level),
      fetching_few f level,
    )

to_vote_few : (f : LoopFacts) → length (phases_to_vote f) ≤ 9
to_vote_few f =
    let before : List LoopPhase = round_phases f First ++ round_phases f Second in
    let all : length (phases_to_vote f) ≡ length before + 1 = length-append before (phase.Vote ∷ []) in
    omega (arith, all, length-append (round_phases f First) (round_phases f Second), round_few f First, round_few f Second)

from_vote_few : (f : LoopFacts) → length (phases_from_vote f) ≤ 6
from_vote_few f =
    let homes : List LoopPhase = asking_phases f Homes ++ (phase.Iterations ∷ []) in
    let both : List LoopPhase = homes ++ asking_phases f References in
    let all : length (phases_from_vote f) ≡ length both + 1 = length-append both (phase.ScheduleAsk ∷ []) in
    omega (
      arith,
      all,
      length-append homes (asking_phases f References),
      length-append (asking_phases f Homes) (phase.Iterations ∷ []),
      asking_few f Homes,
      asking_few f References,
    )

loop_few : (f : LoopFacts) (b : Bool) → length (loop_stages f b) ≤ 17
loop_few f true =
    let all : List LoopPhase = phases_to_vote f ++ phases_from_vote f in
    omega (
      arith,
      length-map (all ++ executor_phases) stage.InLoop,
      length-append all executor_phases,
      length-append (phases_to_vote f) (phases_from_vote f),
      to_vote_few f,
      from_vote_few f,
    )
loop_few f false = omega arith

moving_few : (form : StepForm) → length (moving_stages form) ≤ 17
moving_few (Regular shape) = omega arith
moving_few (Map array) = omega arith

pub stages_few : (c : Checked) (nodes : ℕ) (rule : HomeRule) (past : List Step) (step : Step) → length (stages_of c nodes rule past step)
    ≤ 17
stages_few c nodes rule past (Distribute d form) = by (is_repeat c past d form)
  where
    by : (b : Bool) → length (if b then [] else moving_stages form) ≤ 17
    by true = omega arith
    by false = moving_few form
stages_few c nodes rule past (Print array) = omega arith
stages_few c nodes rule past (Forall site turn) = by (is_empty_turn turn)
  where
    by : (b : Bool) → length (if b then [] else loop_stages (facts_at c nodes rule past site turn) (inspects_at c past site turn)) ≤ 17
    by true = omega arith
    by false = loop_few (facts_at c nodes rule past site turn) (inspects_at c past site turn)

-- ---- the phases of a run

pub length-before : (later : List Phase) (past : List Step) (step : Step) (execution : ℕ) (stages : List Stage)
    → length (phases_before later past step execution stages) ≡ length stages + length later
length-before later past step execution [] = omega arith
length-before later past step execution (stage ∷ stages) = omega (arith, length-before later past step execution stages)

pub phases_few : (c : Checked) (nodes : ℕ) (rule : HomeRule) (past steps : List Step)
    → length (phases_from c nodes rule past steps) ≤ 17 * length steps + length c.outputs
phases_few c nodes rule past [] = omega (arith, length-outputs (length past) past 0 c.outputs)
phases_few c nodes rule past (step ∷ steps) =
    omega (
      arith,
      length-before (phases_from c nodes rule (step ∷ past) steps) past step (length past) (stages_of c nodes rule past step),
      stages_few c nodes rule past step,
      phases_few c nodes rule (step ∷ past) steps,
    )

left_start : (c : Checked) (nodes : ℕ) (rule : HomeRule) (past : List Step) (b : Bool)
    → left_of (cut_phases c (phases_from c nodes rule [] (trace_of c)) past b) ≡ length (phases_from c nodes rule [] (trace_of c))
left_start c nodes rule past false = left_exact (phases_from c nodes rule [] (trace_of c)) (exact_from c nodes rule [] (trace_of c))
left_start c nodes rule past true =
    left_cut (length past) (output_phases (length (trace_of c)) past 0 c.outputs) (phases_from c nodes rule [] (trace_of c))
    ∙ left_exact (phases_from c nodes rule [] (trace_of c)) (exact_from c nodes rule [] (trace_of c))

left_falls : (t : ℕ) (fs : List Phase) → Falls fs → left_of (drop t fs) ≤ left_of fs
left_falls zero fs h = omega arith
left_falls (suc t) [] h = omega arith
left_falls (suc t) (f ∷ fs) h = omega (arith, left_falls t fs h.1, h.0)

pub left_is_small : LeftIsSmall
left_is_small plan h t p =
    omega (
      arith,
      left_face (scene_in plan) (drop t (phases_in plan)) p,
      left_falls t (phases_in plan) (falls_in plan),
      left_start plan.checked plan.nodes plan.rule (completed_of (run_in plan)) (is_some (run_in plan).refused),
      phases_few plan.checked plan.nodes plan.rule [] (trace_of plan.checked),
      h.within.steps,
      h.within.outputs,
    )
