-- What is told of a phase that was entered, for whatever plan the node is in: it is the phase that is due there, and what holds there holds.
use Rattle.std.specs.Prelude.{◌≡◌, ℕ, ℤ, false, List, [], ◌∷◌, drop, length, Option, Some}
use Rattle.fd_program.specs.Layouts.{loop_at}
use Rattle.fd_program.specs.Reports.{completed_of}
use Rattle.fd_program.specs.Trace.{is_empty_turn}
use Rattle.fd_program.specs.declared.trace.LoopTurn.{LoopTurn}
use Rattle.fd_program.specs.declared.trace.Step.{Step}
use Rattle.fd_program.specs.declared.trace.Step.TheVariants.{Distribute, Forall}
use Rattle.chaos_dist.specs.declared.step_form.StepForm.{StepForm}
use Rattle.chaos_table.specs.declared.pages.Pages.{Pages}
use Rattle.chaos_sched.specs.declared.prepared.Prepared.{Prepared}
use Rattle.plan_loop.specs.declared.loop_phase.LoopPhase.{LoopPhase}
use Rattle.plan_loop.specs.declared.loop_phase.LoopPhase.TheVariants as phase
use Rattle.plan_run.specs.Rows.{IsRunPlan, RunPlan, run_in, scene_in}
use Rattle.plan_run.specs.declared.stage.Stage.{Stage}
use Rattle.plan_run.specs.declared.stage.Stage.TheVariants as stage
use Rattle.plan_walk.specs.Places.{left_from, left_in, outputs_left}
use Rattle.chaos_begin.specs.declared.between.Between.{Between}
use Rattle.chaos_inspect.specs.declared.inspection.Inspection.{Inspection}
use Rattle.chaos_executing.specs.InRun.{CanExecute, IsExecuting}
use Rattle.chaos_executing.specs.declared.executing.Executing.{Executing}
use Rattle.chaos_moving.specs.declared.moving.Moving.{Moving}
use Rattle.chaos_holdings.specs.Keeping.{prepared_in}
use Rattle.chaos_holdings.specs.declared.session.Session.{Session}
use Rattle.chaos_entering.specs.Behind.{stages_behind}
use Rattle.chaos_entering.specs.Coming.{ComesNext, EntersAs, IsBehindSteps, IsComing, IsHere, KnowsLengths}
use Rattle.chaos_entering.specs.Standing.{GoesOnInspecting, GoesOnMoving, session_in}
use Rattle.chaos_entering.specs.State.{NodeState, held_of}
use Rattle.chaos_entering.specs.declared.entered.Entered.{Entered}

-- the first phase behind the steps before `from`
abbrev pub EntersNext : Session → Between → List (Option Pages) → ℕ → ℕ → Entered → Type 0
EntersNext session between pages from left e =
    (plan : RunPlan) (past rest : List Step) (st : NodeState) → IsRunPlan plan → session ≡ session_in plan → from ≡ length past
    → IsHere plan between (held_of st) → pages ≡ st.holdings.pages → ComesNext plan past rest between.me left st
    → EntersAs plan (left_from plan past rest) between.me e st

-- the array of OUTPUT with a number, or the end
abbrev pub EntersOutput : Session → ℕ → ℕ → List (List ℤ) → List (List ℤ) → ℕ → Entered → Type 0
EntersOutput session me number elements parts left e =
    (plan : RunPlan) (st : NodeState) → IsRunPlan plan → session ≡ session_in plan → IsBehindSteps plan number me left st
    → elements ≡ st.holdings.elements → parts ≡ st.holdings.parts
    → EntersAs plan (outputs_left plan (completed_of (run_in plan)) number (drop number plan.checked.outputs)) me e st

-- the stage that a move is in
abbrev pub EntersMove : Session → ℕ → ℕ → Moving → List ℕ → ℕ → Entered → Type 0
EntersMove session me execution m sizes left e =
    (plan : RunPlan) (past rest : List Step) (form : StepForm) (now : Stage) (more : List Stage) (st : NodeState) → IsRunPlan plan
    → session ≡ session_in plan
    → execution ≡ length past → IsComing plan past (Distribute m.share.decomposition form) rest now more me left st
    → GoesOnMoving plan past m.share.decomposition form now more me m
    → KnowsLengths plan past (Distribute m.share.decomposition form) now me sizes
    → EntersAs plan (left_in plan past (Distribute m.share.decomposition form) rest (now ∷ more)) me e st

-- the phase that an inspection is in
abbrev pub EntersInspection : Session → ℕ → ℕ → ℕ → Inspection → List (List ℤ) → List (Option Pages) → List ℕ → ℕ → Entered → Type 0
EntersInspection session me execution site i parts pages sizes left e =
    (plan : RunPlan) (past rest : List Step) (turn : LoopTurn) (present : LoopPhase) (st : NodeState) → IsRunPlan plan
    → session ≡ session_in plan → execution ≡ length past
    → IsComing plan past (Forall site turn) rest (stage.InLoop present) (stages_behind (loop_at (scene_in plan) past site turn) present)
    me left st
    → GoesOnInspecting plan past site turn present me st.holdings.tables i → parts ≡ st.holdings.parts → pages ≡ st.holdings.pages
    → KnowsLengths plan past (Forall site turn) (stage.InLoop present) me sizes
    → EntersAs plan (left_in plan past (Forall site turn) rest
    (stage.InLoop present ∷ stages_behind (loop_at (scene_in plan) past site turn) present)) me e st

-- the first phase of an execution
abbrev pub EntersGather : Session → ℕ → ℕ → ℕ → Prepared → List (List ℤ) → ℕ → Entered → Type 0
EntersGather session me execution site prepared parts left e =
    (plan : RunPlan) (past rest : List Step) (turn : LoopTurn) (st : NodeState) → IsRunPlan plan → session ≡ session_in plan
    → execution ≡ length past
    → IsComing plan past (Forall site turn) rest (stage.InLoop phase.Gather) (stage.InLoop phase.Scatter ∷ []) me left st
    → is_empty_turn turn ≡ false → prepared_in st.holdings.kept site ≡ Some prepared
    → CanExecute (scene_in plan) past site turn me st.holdings.tables prepared
    → parts ≡ st.holdings.parts
    → EntersAs plan (left_in plan past (Forall site turn) rest (stage.InLoop phase.Gather ∷ stage.InLoop phase.Scatter ∷ [])) me e st

-- and its second
abbrev pub EntersScatter : Session → ℕ → ℕ → ℕ → Prepared → Executing → ℕ → Entered → Type 0
EntersScatter session me execution site prepared x left e =
    (plan : RunPlan) (past rest : List Step) (turn : LoopTurn) (st : NodeState) → IsRunPlan plan → session ≡ session_in plan
    → execution ≡ length past → IsComing plan past (Forall site turn) rest (stage.InLoop phase.Scatter) [] me left st
    → is_empty_turn turn ≡ false → prepared_in st.holdings.kept site ≡ Some prepared
    → IsExecuting (scene_in plan) past site turn me st.holdings.tables prepared x
    → EntersAs plan (left_in plan past (Forall site turn) rest (stage.InLoop phase.Scatter ∷ [])) me e st
