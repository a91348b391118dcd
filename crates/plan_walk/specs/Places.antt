-- Where a node is in its run: behind the completed steps `past`, the latest first, and before the steps `rest`; or in a step, with the
-- stages of it that are left.
use Rattle.std.specs.Prelude.{◌≡◌, ℕ, ◌+◌, List, ◌∷◌, ◌++◌, length, reverse, is_some}
use Rattle.fd_program.specs.Layouts.{store_at}
use Rattle.fd_program.specs.Reports.{executed_of, completed_of}
use Rattle.fd_program.specs.RunLaws.{IsReached, IsHistory}
use Rattle.fd_program.specs.Runs.{Run, run_from}
use Rattle.fd_program.specs.Trace.{trace_of}
use Rattle.fd_program.specs.declared.array.OutputName.{OutputName}
use Rattle.fd_program.specs.declared.trace.Step.{Step}
use Rattle.fd_program.specs.declared.trace.Step.TheVariants.{Print}
use Rattle.plan_run.specs.Phases.{Phase, cut_phases, output_phases, phases_before, phases_from, stages_of}
use Rattle.plan_run.specs.RefusalLaws.{AreCompleted}
use Rattle.plan_run.specs.Rows.{RunPlan, run_in, scene_in}
use Rattle.plan_run.specs.declared.stage.Stage.{Stage}
use Rattle.plan_run.specs.declared.stage.Stage.TheVariants as stage

-- ---- the phases of a run that isn't refused

abbrev pub whole_from : RunPlan → List Step → List Step → List Phase
whole_from plan past rest = phases_from plan.checked plan.nodes plan.rule past rest

abbrev pub stages_in : RunPlan → List Step → Step → List Stage
stages_in plan past step = stages_of plan.checked plan.nodes plan.rule past step

-- from these stages of a step on
abbrev pub whole_in : RunPlan → List Step → Step → List Step → List Stage → List Phase
whole_in plan past step rest stages = phases_before (whole_from plan (step ∷ past) rest) past step (length past) stages

-- how many phases can still come
abbrev pub whole_left : RunPlan → List Step → Step → List Step → List Stage → ℕ
whole_left plan past step rest stages = length (whole_in plan past step rest stages)

-- ---- the phases that are left

-- cut where the run is refused
abbrev pub cut_in : RunPlan → List Phase → List Phase
cut_in plan phases = cut_phases plan.checked phases (completed_of (run_in plan)) (is_some (run_in plan).refused)

abbrev pub left_from : RunPlan → List Step → List Step → List Phase
left_from plan past rest = cut_in plan (whole_from plan past rest)

abbrev pub left_in : RunPlan → List Step → Step → List Step → List Stage → List Phase
left_in plan past step rest stages = cut_in plan (whole_in plan past step rest stages)

-- the phases of the OUTPUT arrays from the j-th on
abbrev pub outputs_left : RunPlan → List Step → ℕ → List OutputName → List Phase
outputs_left plan past j os = output_phases (length (trace_of plan.checked)) past j os

-- ---- the present phase

-- in this stage of a step, with these stages behind it
abbrev pub present_phase : RunPlan → List Step → Step → List Step → Stage → List Stage → Phase
present_phase plan past step rest stage stages = record {
  past = past;
  step = step;
  stage = stage;
  execution = length past;
  left = whole_left plan past step rest stages + 1;
}

-- at the j-th array of OUTPUT, with these arrays behind it
abbrev pub output_phase : RunPlan → List Step → ℕ → OutputName → List OutputName → Phase
output_phase plan past j o os = record {
  past = past;
  step = Print o.array;
  stage = stage.Output j;
  execution = length (trace_of plan.checked) + j;
  left = length (outputs_left plan past (j + 1) os) + 1;
}

-- ---- before a step

-- the run from there on
abbrev pub run_left : RunPlan → List Step → List Step → Run
run_left plan past rest = run_from plan.checked rest (store_at (scene_in plan) past)

-- The steps are those of the trace, the run has come to `rest`, none of `past` was refused, and the whole run is the completed steps
-- with what it does from there on.
pub record StandsBetween (plan : RunPlan) (past rest : List Step) : Type 0 where
  pub trace : reverse past ++ rest ≡ trace_of plan.checked
  pub reached : IsReached (scene_in plan) past rest
  pub history : IsHistory (scene_in plan) past
  pub completed : AreCompleted (scene_in plan) past
  pub refused : (run_in plan).refused ≡ (run_left plan past rest).refused
  pub executed : executed_of (run_in plan) ≡ executed_of (run_left plan past rest) ++ past
  pub last : (run_in plan).last ≡ (run_left plan past rest).last
