-- What the end of a phase changes.
use Rattle.std.specs.Prelude.{◌≡◌, ℕ, ◌+◌, ◌<◌, ℤ, List, [], ◌++◌, drop, Option, Some, None}
use Rattle.bsp_core.specs.Views.{View, ready}
use Rattle.plan_run.specs.Rows.{IsRunPlan, RunPlan, node_row, phases_in}
use Rattle.chaos_entering.specs.Coming.{CanStand, EntersAs, entered_state, face_entered}
use Rattle.chaos_holdings.specs.Effects.{end_after, holdings_after}
use Rattle.chaos_entering.specs.Standing.{node_holds}
use Rattle.chaos_entering.specs.State.{NodeState}
use Rattle.chaos_entering.specs.declared.activity.Activity.{Activity}
use Rattle.chaos_entering.specs.declared.activity.Activity.TheVariants.{Scattering}
use Rattle.chaos_executing.specs.declared.executing.Executing.{Executing}
use Rattle.chaos_holdings.specs.declared.effect.Effect.TheVariants.{Executes}
use Rattle.chaos_node.specs.declared.change.Change.{Change}
use Rattle.chaos_node.specs.declared.change.Executed.{Executed}

-- a node after a change, but for its place
abbrev pub changed_by : NodeState → Change → NodeState
changed_by st change = record {
  session = st.session;
  at = st.at;
  holdings = holdings_after st.session.checked st.at.site change.effect st.holdings;
  text = st.text ++ change.line;
  inspected = st.inspected;
  end = end_after st.at.site change.effect st.end;
}

-- the change takes a node from the end of a phase of any plan to the beginning of the next
abbrev pub ChangesRight : View NodeState → Change → Type 0
ChangesRight v change =
    (plan : RunPlan) (t p : ℕ) → IsRunPlan plan → p < plan.nodes → v.face ≡ ready (node_row plan t) p → node_holds plan t p v.state
    → EntersAs plan (drop (t + 1) (phases_in plan)) p change.entered (changed_by v.state change)

-- and can be made
pub record CanBeMade (v : View NodeState) (change : Change) : Type 0 where
  pub stands : CanStand v.face.me v.face.count change.entered
  pub falls : change.entered.left < v.face.left

-- a work that has made such a change
pub record IsMade (v w : View NodeState) : Type 0 where
  pub change : Change
  pub made : CanBeMade v change
  pub right : ChangesRight v change
  pub face : w.face ≡ face_entered v.face.me v.face.count change.entered
  pub state : w.state ≡ entered_state (changed_by v.state change) change.entered

-- ---- the end of an execution, whose parts are changed in place

abbrev pub executing_in : Activity → Option Executing
executing_in (Scattering executing) = Some executing
executing_in _ = None

-- a node whose parts are these
abbrev pub with_parts : View NodeState → List (List ℤ) → View NodeState
with_parts v parts = record v { state = record v.state { holdings = record v.state.holdings { parts = parts } } }

-- all that changes, where the parts have become these
abbrev pub change_with : List (List ℤ) → Executed → Change
change_with parts x = record { effect = Executes parts x.records x.count; line = []; entered = x.entered }
