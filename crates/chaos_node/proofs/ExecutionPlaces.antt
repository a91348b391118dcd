-- Where a node is at the end of a phase of an execution, and what the steps of the plan tell there.
use Rattle.std.specs.Prelude.{◌≡◌, ℕ, ◌+◌, ◌<◌, ◌≤◌, List, [], ◌∷◌, ◌++◌, drop, length, reverse, Some}
use Rattle.std.specs.List.{AllByRecursion}
use Rattle.std.specs.Option.{option_and_then}
use Rattle.std.proofs.Common.{ap, sym, ◌∙◌, subst}
use Rattle.bsp_core.specs.Views.{Face, View, ready}
use Rattle.fd_program.specs.ListLaws.{all_split, all_reversed}
use Rattle.fd_program.specs.StepLaws.{IsStepIn, StepsAreIn}
use Rattle.fd_program.specs.Checks.{IsChecked}
use Rattle.fd_program.specs.Trace.{trace_of}
use Rattle.fd_program.specs.declared.trace.LoopTurn.{LoopTurn}
use Rattle.fd_program.specs.declared.trace.Step.{Step}
use Rattle.fd_program.specs.declared.trace.Step.TheVariants.{Forall}
use Rattle.plan_walk.specs.LetterLaws.{letters_come_in, letters_for}
use Rattle.plan_walk.specs.PhaseBegins.{rows_follow}
use Rattle.plan_walk.specs.Places.{StandsBetween}
use Rattle.plan_walk.specs.StepEnds.{steps_are_known}
use Rattle.plan_run.specs.Phases.{Phase}
use Rattle.plan_run.specs.Rows.{RunPlan, face_left, node_row, phases_in, scene_in}
use Rattle.chaos_holdings.specs.Executions.{turn_by, turn_in}
use Rattle.chaos_entering.specs.State.{NodeState}

-- node p at the end of phase t, which is `f`
pub record EndsPhase (plan : RunPlan) (t p : ℕ) (f : Phase) (later : List Phase) (v : View NodeState) : Type 0 where
  pub me : v.face.me ≡ p
  pub left : v.face.left ≡ f.left
  pub got : v.face.got ≡ letters_for (scene_in plan) f p
  pub behind : drop (t + 1) (phases_in plan) ≡ later

pub ends_phase : (plan : RunPlan) (t p : ℕ) (f : Phase) (later : List Phase) (v : View NodeState) → p < plan.nodes
    → v.face ≡ ready (node_row plan t) p
    → drop t (phases_in plan) ≡ f ∷ later → EndsPhase plan t p f later v
ends_phase plan t p f later v is_node row phases =
    let s = scene_in plan in
    let face : v.face ≡ record { me = p; count = plan.nodes; left = f.left; out = []; due = []; got = letters_for s f p } =
    row ∙ ap (λ fs. ready (face_left s fs) p) phases ∙ letters_come_in s f later p is_node in
    record {
      me = ap (λ (x : Face). x.me) face;
      left = ap (λ (x : Face). x.left) face;
      got = ap (λ (x : Face). x.got) face;
      behind = (rows_follow plan t f later phases).left;
    }

-- ---- the steps

pub some_same : {A : Type 0} (x y : A) → Some x ≡ Some y → x ≡ y
some_same x y e = cc

pub turn_is : (plan : RunPlan) (past rest : List Step) (site : ℕ) (turn : LoopTurn) → StandsBetween plan past (Forall site turn ∷ rest)
    → turn_in (trace_of plan.checked) (length past) ≡ Some turn
turn_is plan past rest site turn h = ap (λ o. option_and_then turn_by o) (steps_are_known plan past (Forall site turn ∷ rest) h).next

-- the steps behind are the program's
pub steps_behind : StepsAreIn → (plan : RunPlan) (past rest : List Step) → IsChecked plan.checked → StandsBetween plan past rest
    → AllByRecursion (IsStepIn plan.checked) past
steps_behind steps plan past rest known h =
    all_reversed (IsStepIn plan.checked) past
    (all_split (IsStepIn plan.checked) (reverse past) rest (subst (AllByRecursion (IsStepIn plan.checked)) (sym h.trace)
    (steps plan.checked known))).0
