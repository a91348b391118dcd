-- Where a node stands in the plan of a run, and what holds of it there.
use Rattle.std.specs.Prelude.{◌≡◌, ℕ, ◌+◌, pos, List, [], ◌∷◌, ◌++◌, length, map, flat_map, drop, take, false, true, Some, None}
use Rattle.chaos_dist.specs.Counting.{below}
use Rattle.chaos_dist.specs.declared.step_form.StepForm.{StepForm}
use Rattle.fd_program.specs.Layouts.{Scene, loop_at, owners_at, store_at}
use Rattle.fd_program.specs.Past.{inspecting_of, inspects_at, is_repeat}
use Rattle.fd_program.specs.Reports.{completed_of, executed_of}
use Rattle.fd_program.specs.RunLaws.{IsHistory}
use Rattle.fd_program.specs.Texts.{output_line, refusal_text}
use Rattle.fd_program.specs.Runs.{Run}
use Rattle.fd_program.specs.Trace.{is_empty_turn, trace_of}
use Rattle.fd_program.specs.declared.array.OutputName.{OutputName}
use Rattle.fd_program.specs.declared.trace.LoopTurn.{LoopTurn}
use Rattle.fd_program.specs.declared.trace.Step.{Step}
use Rattle.fd_program.specs.declared.trace.Step.TheVariants.{Distribute, Print, Forall}
use Rattle.plan_loop.specs.declared.loop_phase.LoopPhase.{LoopPhase}
use Rattle.plan_loop.specs.declared.loop_phase.LoopPhase.TheVariants as phase
use Rattle.plan_run.specs.Held.{EachLoop, Held, KeepsAtEnd, KeepsInStep, KeepsLoop, Stands, inspected_at, lines_of, refused_at, text_at}
use Rattle.plan_run.specs.Held.{text_on}
use Rattle.plan_run.specs.Phases.{Phase, numbers_at, site_of}
use Rattle.plan_run.specs.Rows.{RunPlan, phases_in, run_in, scene_in}
use Rattle.chaos_sched.specs.declared.prepared.Prepared.{Prepared}
use Rattle.plan_run.specs.declared.stage.Stage.{Stage}
use Rattle.plan_run.specs.declared.stage.Stage.TheVariants as stage
use Rattle.chaos_hash.specs.Stamps.{Stamps}
use Rattle.chaos_inspect.specs.Inspecting.{IsInspecting, phase_of}
use Rattle.chaos_inspect.specs.declared.inspection.Inspection.{Inspection}
use Rattle.chaos_moving.specs.InRun.{owners_after}
use Rattle.chaos_moving.specs.IsMoving.{IsMoving}
use Rattle.chaos_moving.specs.Stages.{left_in as stages_left}
use Rattle.chaos_moving.specs.declared.moving.Moving.{Moving}
use Rattle.chaos_executing.specs.InRun.{CanExecute, IsExecuting}
use Rattle.chaos_executing.specs.declared.executing.Executing.{Executing}
use Rattle.plan_walk.specs.Places.{StandsBetween, left_in, outputs_left}
use Rattle.chaos_entering.specs.Behind.{stages_behind}
use Rattle.chaos_holdings.specs.Keeping.{prepared_in}
use Rattle.chaos_entering.specs.State.{NodeState, held_of}
use Rattle.chaos_entering.specs.declared.activity.Activity.{Activity}
use Rattle.chaos_entering.specs.declared.activity.Activity.TheVariants.{Printing, Output, Moving as Moves, Inspecting, Gathering}
use Rattle.chaos_entering.specs.declared.activity.Activity.TheVariants.{Scattering, Ended}
use Rattle.chaos_holdings.specs.declared.session.Session.{Session}

abbrev pub session_in : RunPlan → Session
session_in plan = record { checked = plan.checked; trace = trace_of plan.checked; nodes = plan.nodes; rule = plan.rule }

-- ---- between steps

-- the node has come to `rest`: what it holds behind the steps `past`
pub record HasCome (plan : RunPlan) (past rest : List Step) (p : ℕ) (v : Held) : Type 0 where
  pub places : StandsBetween plan past rest
  pub stands : Stands (scene_in plan) past p v
  pub keeps : EachLoop plan.checked (λ k. KeepsLoop (scene_in plan) past k p v.tables) v.kept
  pub inspected : v.inspected ≡ map pos (inspecting_of plan.checked past)
  pub text : v.text ≡ text_on p (lines_of (scene_in plan) past)
  pub refused : v.refused ≡ None
  pub sized : length v.tables ≡ length plan.checked.layouts

-- ---- in a stage of a step

-- what a node holds as the stage begins, but for its list for itself and what is in hand
pub record KnowsInStep (s : Scene) (run : Run) (past : List Step) (step : Step) (stage : Stage) (p : ℕ) (v : Held) : Type 0 where
  pub stands : Stands s past p v
  pub keeps : EachLoop s.checked (KeepsInStep s run past step stage p v.tables) v.kept
  pub inspected : v.inspected ≡ inspected_at s run past step stage
  pub text : v.text ≡ text_on p (text_at s run past stage)
  pub refused : v.refused ≡ refused_at run stage
  pub sized : length v.tables ≡ length s.checked.layouts

-- the node is in this stage of this step, and these stages follow
pub record StandsInStep (plan : RunPlan) (phases : List Phase) (past : List Step) (step : Step) (rest : List Step) (stage : Stage)
    (more : List Stage) (p : ℕ) (st : NodeState) : Type 0 where
  pub places : StandsBetween plan past (step ∷ rest)
  pub phases_are : phases ≡ left_in plan past step rest (stage ∷ more)
  pub execution : st.at.execution ≡ length past
  pub site : st.at.site ≡ site_of step
  pub own : st.at.own ≡ numbers_at (scene_in plan) past step stage p p
  pub knows : KnowsInStep (scene_in plan) (run_in plan) past step stage p (held_of st)

-- how long the lists are that it sends
abbrev pub HasSizes : RunPlan → List Step → Step → Stage → ℕ → NodeState → Type 0
HasSizes plan past step stage p st = st.at.sizes ≡ map (λ q. length (numbers_at (scene_in plan) past step stage p q)) (below plan.nodes)

-- a PRINT
pub record IsPrint (plan : RunPlan) (phases : List Phase) (p : ℕ) (st : NodeState) : Type 0 where
  pub past : List Step
  pub rest : List Step
  pub in_step : StandsInStep plan phases past (Print st.at.site) rest stage.Print [] p st

-- a move on p, where this stage and then these are left
pub record GoesOnMoving (plan : RunPlan) (past : List Step) (d : ℕ) (form : StepForm) (stage : Stage) (more : List Stage) (p : ℕ)
    (m : Moving) : Type 0 where
  pub left : stages_left m.stage ≡ stage ∷ more
  pub repeats : is_repeat plan.checked past d form ≡ false
  pub decomposition : m.share.decomposition ≡ d
  pub node : m.share.me ≡ p
  pub by : m.form ≡ form
  pub moving : IsMoving m (scene_in plan) (owners_at (scene_in plan) past) (store_at (scene_in plan) past)
      (owners_after (scene_in plan) past d form)

-- the move of a decomposition
pub record IsMove (plan : RunPlan) (phases : List Phase) (p : ℕ) (st : NodeState) (m : Moving) : Type 0 where
  pub past : List Step
  pub rest : List Step
  pub form : StepForm
  pub stage : Stage
  pub more : List Stage
  pub in_step : StandsInStep plan phases past (Distribute st.at.site form) rest stage more p st
  pub sizes : HasSizes plan past (Distribute st.at.site form) stage p st
  pub goes_on : GoesOnMoving plan past st.at.site form stage more p m

-- an inspection on p that has come to this phase
pub record GoesOnInspecting (plan : RunPlan) (past : List Step) (site : ℕ) (turn : LoopTurn) (l : LoopPhase) (p : ℕ)
    (tables : List Stamps) (i : Inspection) : Type 0 where
  pub phase_is : phase_of i.stage ≡ Some l
  pub some : is_empty_turn turn ≡ false
  pub inspects : inspects_at plan.checked past site turn ≡ true
  pub facts : i.facts ≡ loop_at (scene_in plan) past site turn
  pub node : i.me ≡ p
  pub inspecting : IsInspecting i (owners_at (scene_in plan) past) (store_at (scene_in plan) past) tables

-- the inspection of a FORALL
pub record IsInspection (plan : RunPlan) (phases : List Phase) (p : ℕ) (st : NodeState) (i : Inspection) : Type 0 where
  pub past : List Step
  pub rest : List Step
  pub turn : LoopTurn
  pub present : LoopPhase
  pub in_step : StandsInStep plan phases past (Forall st.at.site turn) rest (stage.InLoop present)
      (stages_behind (loop_at (scene_in plan) past st.at.site turn) present) p st
  pub sizes : HasSizes plan past (Forall st.at.site turn) (stage.InLoop present) p st
  pub goes_on : GoesOnInspecting plan past st.at.site turn present p st.holdings.tables i

-- ghosts are gathered: the kept inspection is that of this execution
pub record IsGather (plan : RunPlan) (phases : List Phase) (p : ℕ) (st : NodeState) : Type 0 where
  pub past : List Step
  pub rest : List Step
  pub turn : LoopTurn
  pub prepared : Prepared
  pub in_step : StandsInStep plan phases past
      (Forall st.at.site turn) rest (stage.InLoop phase.Gather) (stage.InLoop phase.Scatter ∷ []) p st
  pub some : is_empty_turn turn ≡ false
  pub kept : prepared_in st.holdings.kept st.at.site ≡ Some prepared
  pub can : CanExecute (scene_in plan) past st.at.site turn p st.holdings.tables prepared

-- contributions are scattered
pub record IsScatter (plan : RunPlan) (phases : List Phase) (p : ℕ) (st : NodeState) (x : Executing) : Type 0 where
  pub past : List Step
  pub rest : List Step
  pub turn : LoopTurn
  pub prepared : Prepared
  pub in_step : StandsInStep plan phases past (Forall st.at.site turn) rest (stage.InLoop phase.Scatter) [] p st
  pub some : is_empty_turn turn ≡ false
  pub kept : prepared_in st.holdings.kept st.at.site ≡ Some prepared
  pub executing : IsExecuting (scene_in plan) past st.at.site turn p st.holdings.tables prepared x

-- what a node holds as OUTPUT j begins, or at the end behind the last: the completed steps are behind it
pub record KnowsBehind (s : Scene) (run : Run) (past : List Step) (j p : ℕ) (v : Held) : Type 0 where
  pub history : IsHistory s past
  pub stands : Stands s past p v
  pub keeps : EachLoop s.checked (KeepsAtEnd s run past p v.tables) v.kept
  pub inspected : v.inspected ≡ map pos (inspecting_of s.checked (executed_of run))
  pub text : v.text ≡ text_on p (lines_of s past ++ refusal_text s.checked run.refused ++ flat_map (output_line s.checked run.last)
      (take j s.checked.outputs))
  pub refused : v.refused ≡ run.refused
  pub last : run.last ≡ store_at s past

-- OUTPUT j
pub record IsOutput (plan : RunPlan) (phases : List Phase) (j p : ℕ) (st : NodeState) : Type 0 where
  pub name : OutputName
  pub names : List OutputName
  pub named : drop j plan.checked.outputs ≡ name ∷ names
  pub phases_are : phases ≡ outputs_left plan (completed_of (run_in plan)) j (name ∷ names)
  pub execution : st.at.execution ≡ length (trace_of plan.checked) + j
  pub site : st.at.site ≡ name.array
  pub own : st.at.own ≡ numbers_at (scene_in plan) (completed_of (run_in plan)) (Print name.array) (stage.Output j) p p
  pub knows : KnowsBehind (scene_in plan) (run_in plan) (completed_of (run_in plan)) j p (held_of st)

pub record StandsAtEnd (plan : RunPlan) (phases : List Phase) (p : ℕ) (st : NodeState) : Type 0 where
  pub none_left : phases ≡ []
  pub knows : KnowsBehind (scene_in plan) (run_in plan) (completed_of (run_in plan)) (length plan.checked.outputs) p (held_of st)

-- ---- where a node is

abbrev pub IsPlace : RunPlan → List Phase → ℕ → NodeState → Activity → Type 0
IsPlace plan phases p st Printing = IsPrint plan phases p st
IsPlace plan phases p st (Output j) = IsOutput plan phases j p st
IsPlace plan phases p st (Moves m) = IsMove plan phases p st m
IsPlace plan phases p st (Inspecting i) = IsInspection plan phases p st i
IsPlace plan phases p st Gathering = IsGather plan phases p st
IsPlace plan phases p st (Scattering x) = IsScatter plan phases p st x
IsPlace plan phases p st Ended = StandsAtEnd plan phases p st

-- what holds of the state of node p where these phases are left
pub record HoldsAt (plan : RunPlan) (phases : List Phase) (p : ℕ) (st : NodeState) : Type 0 where
  pub session : st.session ≡ session_in plan
  pub place : IsPlace plan phases p st st.at.activity

-- and as phase t begins
abbrev pub node_holds : RunPlan → ℕ → ℕ → NodeState → Type 0
node_holds plan t p st = HoldsAt plan (drop t (phases_in plan)) p st
