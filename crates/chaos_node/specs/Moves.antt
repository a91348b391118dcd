-- What the stages of a move end in.
use Rattle.std.specs.Prelude.{◌≡◌, ℕ, ◌<◌, false, List, ◌∷◌, drop}
use Rattle.bsp_core.specs.Views.{View, ready}
use Rattle.chaos_dist.specs.declared.step_form.StepForm.{StepForm}
use Rattle.fd_program.specs.Layouts.{owners_at, store_at}
use Rattle.fd_program.specs.Past.{is_repeat}
use Rattle.fd_program.specs.declared.trace.Step.{Step}
use Rattle.fd_program.specs.declared.trace.Step.TheVariants.{Distribute}
use Rattle.chaos_moving.specs.InRun.{owners_after}
use Rattle.chaos_moving.specs.IsMoving.{IsMoving}
use Rattle.chaos_moving.specs.Stages.{left_in as stages_left}
use Rattle.chaos_moving.specs.declared.moving.Moving.{Moving}
use Rattle.chaos_moving.specs.declared.moving.MovingStage.{MovingStage}
use Rattle.plan_run.specs.Rows.{IsRunPlan, RunPlan, node_row, phases_in, scene_in}
use Rattle.plan_run.specs.declared.stage.Stage.{Stage}
use Rattle.chaos_entering.specs.Standing.{HasSizes, StandsInStep, node_holds, session_in}
use Rattle.chaos_entering.specs.State.{NodeState}

-- At the end of phase t, a stage of a move: what the move has become.
pub record HasGoneOn (plan : RunPlan) (t p : ℕ) (st : NodeState) (m : Moving) : Type 0 where
  pub past : List Step
  pub rest : List Step
  pub form : StepForm
  pub before : MovingStage
  pub stage : Stage
  pub session : st.session ≡ session_in plan
  pub in_step : StandsInStep plan (drop t (phases_in plan)) past (Distribute st.at.site form) rest stage (stages_left m.stage) p st
  pub sizes : HasSizes plan past (Distribute st.at.site form) stage p st
  pub from : stages_left before ≡ stage ∷ stages_left m.stage
  pub repeats : is_repeat plan.checked past st.at.site form ≡ false
  pub decomposition : m.share.decomposition ≡ st.at.site
  pub node : m.share.me ≡ p
  pub by : m.form ≡ form
  pub moving : IsMoving m (scene_in plan) (owners_at (scene_in plan) past) (store_at (scene_in plan) past)
      (owners_after (scene_in plan) past st.at.site form)

-- so it is for whatever plan and phase at which the node stands
abbrev pub EndsStage : View NodeState → Moving → Type 0
EndsStage v m =
    (plan : RunPlan) (t p : ℕ) → IsRunPlan plan → p < plan.nodes → v.face ≡ ready (node_row plan t) p → node_holds plan t p v.state
    → HasGoneOn plan t p v.state m
