-- What the phases of an inspection end in.
use Rattle.std.specs.Prelude.{◌≡◌, ℕ, ◌<◌, true, false, if◌then◌else◌, List, drop, length, None, is_some}
use Rattle.bsp_core.specs.Views.{View, ready}
use Rattle.chaos_hash.specs.Stamps.{Stamps}
use Rattle.plan_tables.specs.Tables.{HasPlaces, KeepsOtherStamps}
use Rattle.fd_program.specs.Layouts.{loop_at, owners_at, store_at}
use Rattle.fd_program.specs.Past.{inspects_at}
use Rattle.fd_program.specs.Trace.{is_empty_turn}
use Rattle.fd_program.specs.declared.trace.LoopTurn.{LoopTurn}
use Rattle.fd_program.specs.declared.trace.Step.{Step}
use Rattle.fd_program.specs.declared.trace.Step.TheVariants.{Forall}
use Rattle.plan_loop.specs.declared.loop_phase.LoopPhase.{LoopPhase}
use Rattle.plan_loop.specs.declared.loop_phase.LoopPhase.TheVariants as phase
use Rattle.chaos_inspect.specs.Inspecting.{IsInspecting, offence_in, phase_after, phase_of}
use Rattle.chaos_inspect.specs.declared.inspection.Inspection.{Inspection}
use Rattle.plan_run.specs.Held.{is_executing}
use Rattle.plan_run.specs.Rows.{IsRunPlan, RunPlan, node_row, phases_in, scene_in}
use Rattle.plan_run.specs.declared.stage.Stage.TheVariants as stage
use Rattle.chaos_entering.specs.Behind.{stages_behind}
use Rattle.chaos_entering.specs.Standing.{HasSizes, StandsInStep, node_holds, session_in}
use Rattle.chaos_entering.specs.State.{NodeState}

-- At the end of phase t, one of an inspection: what the inspection and the tables have become.
pub record HasInspected (plan : RunPlan) (t p : ℕ) (st : NodeState) (i : Inspection) (tables : List Stamps) : Type 0 where
  pub past : List Step
  pub rest : List Step
  pub turn : LoopTurn
  pub present : LoopPhase
  pub session : st.session ≡ session_in plan
  pub in_step : StandsInStep plan (drop t (phases_in plan)) past (Forall st.at.site turn) rest (stage.InLoop present)
      (stages_behind (loop_at (scene_in plan) past st.at.site turn) present) p st
  pub sizes : HasSizes plan past (Forall st.at.site turn) (stage.InLoop present) p st
  pub early : is_executing (stage.InLoop present) ≡ false
  pub known : st.at.site < length plan.checked.sites
  pub some : is_empty_turn turn ≡ false
  pub inspects : inspects_at plan.checked past st.at.site turn ≡ true
  pub facts : i.facts ≡ loop_at (scene_in plan) past st.at.site turn
  pub node : i.me ≡ p
  pub next : phase_of i.stage ≡ (if is_some (offence_in i.stage) then None else phase_after (loop_at (scene_in plan) past st.at.site turn)
      present)
  pub votes : is_some (offence_in i.stage) ≡ true → present ≡ phase.Vote
  pub inspecting : IsInspecting i (owners_at (scene_in plan) past) (store_at (scene_in plan) past) tables
  pub places : HasPlaces (owners_at (scene_in plan) past) tables
  pub sized : length tables ≡ length plan.checked.layouts
  pub others : KeepsOtherStamps (loop_at (scene_in plan) past st.at.site turn) st.holdings.tables tables

-- so it is for whatever plan and phase at which the node stands
abbrev pub EndsPhase : View NodeState → Inspection → List Stamps → Type 0
EndsPhase v i tables =
    (plan : RunPlan) (t p : ℕ) → IsRunPlan plan → p < plan.nodes → v.face ≡ ready (node_row plan t) p → node_holds plan t p v.state
    → HasInspected plan t p v.state i tables
