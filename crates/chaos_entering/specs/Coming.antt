-- What a node is about to begin, and what it is once it has begun that.
use Rattle.std.specs.Prelude.{◌≡◌, ℕ, ◌+◌, ◌≤◌, ◌<◌, ◌^◌, ℤ, pos, Bool, true, false, if◌then◌else◌, List, [], ◌∷◌, ◌++◌, drop, length, map}
use Rattle.std.specs.Prelude.{slice_set, Option, Some, vec_capacity}
use Rattle.bsp_core.specs.Views.{Ascends, Face, nodes_in}
use Rattle.fd_program.specs.Layouts.{Scene}
use Rattle.fd_program.specs.Reports.{completed_of}
use Rattle.fd_program.specs.declared.trace.Step.{Step}
use Rattle.chaos_begin.specs.Begins.{IsBegun, IsFitBegun, latest_kept}
use Rattle.chaos_begin.specs.declared.begun.Begun.{Begun}
use Rattle.chaos_begin.specs.declared.between.Between.{Between}
use Rattle.plan_run.specs.Held.{Held}
use Rattle.plan_run.specs.Phases.{Phase, is_free, numbers_at, site_of}
use Rattle.plan_run.specs.Rows.{IsRunPlan, RunPlan, face_left, run_in, scene_in}
use Rattle.plan_run.specs.declared.stage.Stage.{Stage}
use Rattle.plan_walk.specs.Letters.{number_in}
use Rattle.plan_walk.specs.Places.{StandsBetween, left_from, whole_from, whole_left}
use Rattle.chaos_entering.specs.Entering.{counts_behind}
use Rattle.chaos_holdings.specs.Keeping.{no_kept, prepared_in}
use Rattle.chaos_entering.specs.Standing.{HoldsAt, HasCome, KnowsInStep, KnowsBehind, session_in}
use Rattle.chaos_entering.specs.State.{NodeState, held_of}
use Rattle.inspect_uses.specs.Accepted.{IsAccepted}
use Rattle.chaos_entering.specs.declared.activity.Activity.{Activity}
use Rattle.chaos_entering.specs.declared.activity.Activity.TheVariants.{Inspecting}
use Rattle.chaos_entering.specs.declared.ahead.Ahead.{Ahead}
use Rattle.chaos_entering.specs.declared.entered.Entered.{Entered}
use Rattle.chaos_holdings.specs.declared.holdings.Holdings.{Holdings}
use Rattle.chaos_entering.specs.declared.found.Found.{Found}
use Rattle.chaos_entering.specs.declared.found.Found.TheVariants as found
use Rattle.plan_run.specs.declared.kept.Kept.{Kept}
use Rattle.chaos_sched.specs.declared.prepared.Prepared.{Prepared}

-- ---- what was entered

abbrev pub face_entered : ℕ → ℕ → Entered → Face
face_entered me nodes e = record { me = me; count = nodes; left = e.left; out = e.out.items; due = e.due.items; got = e.got.items }

-- an inspection is one of a loop of a checked program
abbrev pub IsSoundActivity : Activity → Type 0
IsSoundActivity (Inspecting i) = IsAccepted i.facts
IsSoundActivity _ = Unit {0}

-- its letters and wants can be those of a node
pub record CanStand (me nodes : ℕ) (e : Entered) : Type 0 where
  pub left : e.left < 2 ^ 31
  pub out : Ascends me nodes 0 (nodes_in e.out.items)
  pub due : Ascends me nodes 0 (nodes_in e.due.items)
  pub room : length e.got.items + length e.due.items ≤ vec_capacity e.got
  pub number : e.begins ≡ true → e.at.execution < 2 ^ 63
  pub sound : IsSoundActivity e.at.activity

-- the executions that inspect, with one that begins
abbrev pub noted_if : Bool → ℕ → List ℤ → List ℤ
noted_if begins execution inspected = if begins then inspected ++ pos execution ∷ [] else inspected

abbrev pub begun_holdings : Holdings → Entered → Holdings
begun_holdings h e = record h { kept = if e.begins then slice_set h.kept e.at.site no_kept else h.kept }

-- a node that has entered the phase: where an inspection begins, its execution is noted, and nothing is kept of the FORALL
abbrev pub entered_state : NodeState → Entered → NodeState
entered_state st e = record st {
  at = e.at;
  inspected = noted_if e.begins e.at.execution st.inspected;
  holdings = begun_holdings st.holdings e;
}

-- it has the face of these phases, and what holds there holds
pub record EntersAs (plan : RunPlan) (phases : List Phase) (p : ℕ) (e : Entered) (st : NodeState) : Type 0 where
  pub face : face_entered p plan.nodes e ≡ face_left (scene_in plan) phases p
  pub holds : HoldsAt plan phases p (entered_state st e)

-- ---- what is about to begin

-- a stage of a step, with so many phases left
pub record IsComing (plan : RunPlan) (past : List Step) (step : Step) (rest : List Step) (stage : Stage) (more : List Stage) (p left : ℕ)
    (st : NodeState) : Type 0 where
  pub session : st.session ≡ session_in plan
  pub node : p < plan.nodes
  pub places : StandsBetween plan past (step ∷ rest)
  pub left_is : left ≡ whole_left plan past step rest (stage ∷ more)
  pub knows : KnowsInStep (scene_in plan) (run_in plan) past step stage p (held_of st)

-- what comes behind the steps `past`, with so many phases left
pub record ComesNext (plan : RunPlan) (past rest : List Step) (p left : ℕ) (st : NodeState) : Type 0 where
  pub session : st.session ≡ session_in plan
  pub node : p < plan.nodes
  pub come : HasCome plan past rest p (held_of st)
  pub left_is : left ≡ length (whole_from plan past rest)

-- the records that are kept are these, and so are the inspections as far as they weren't given up
pub record Covers (kept now : List (Option Kept)) : Type 0 where
  pub records : map latest_kept kept ≡ map latest_kept now
  pub inspections : (k : ℕ) (x : Prepared) → prepared_in now k ≡ Some x → prepared_in kept k ≡ Some x

-- what is looked at before a step is what the node holds
pub record IsHere (plan : RunPlan) (b : Between) (v : Held) : Type 0 where
  pub checked : b.checked.now ≡ plan.checked
  pub nodes : b.nodes ≡ plan.nodes
  pub rule : b.rule ≡ plan.rule
  pub elements : v.elements ≡ b.elements.now
  pub parts : v.parts ≡ b.parts.now
  pub records : v.records ≡ b.records.now
  pub kept : Covers b.kept.now v.kept

-- the phase that was entered is the first of a step that begins so
abbrev pub EntersStep : Ahead → (Scene → List Step → Step → Type 0) → Entered → Type 0
EntersStep a Begins e =
    (plan : RunPlan) (past rest : List Step) (step : Step) (st : NodeState) → IsRunPlan plan → a.session.now ≡ session_in plan
    → a.number ≡ length past → a.site ≡ site_of step → IsHere plan a.between.now (held_of st) → a.pages.now ≡ st.holdings.pages
    → ComesNext plan past (step ∷ rest) a.between.now.me a.left st → Begins (scene_in plan) past step
    → EntersAs plan (left_from plan past (step ∷ rest)) a.between.now.me e st

-- ---- the next step with phases

-- a step with phases comes next: those between have none
pub record FindsStep (plan : RunPlan) (past rest : List Step) (p : ℕ) (v : Held) (number site : ℕ) (begun : Begun) : Type 0 where
  pub before : List Step
  pub step : Step
  pub behind : List Step
  pub come : HasCome plan before (step ∷ behind) p v
  pub number_is : number ≡ length before
  pub site_is : site ≡ site_of step
  pub left : left_from plan past rest ≡ left_from plan before (step ∷ behind)
  pub whole : whole_from plan past rest ≡ whole_from plan before (step ∷ behind)
  pub begins : IsBegun (scene_in plan) before step p begun

-- no step with phases is left
pub record FindsNone (plan : RunPlan) (past rest : List Step) (p : ℕ) (v : Held) : Type 0 where
  pub before : List Step
  pub come : HasCome plan before [] p v
  pub left : left_from plan past rest ≡ left_from plan before []
  pub whole : whole_from plan past rest ≡ whole_from plan before []

abbrev pub HasFound : RunPlan → List Step → List Step → ℕ → Held → Found → Type 0
HasFound plan past rest p v (found.Step number site begun) = FindsStep plan past rest p v number site begun
HasFound plan past rest p v found.Over = FindsNone plan past rest p v

-- the lengths that the node knows from the lists that it sent before are those of the letters
abbrev pub KnowsLengths : RunPlan → List Step → Step → Stage → ℕ → List ℕ → Type 0
KnowsLengths plan past step stage p sizes =
    is_free stage ≡ false → (q : ℕ) → q < plan.nodes
    → number_in (counts_behind stage plan.nodes sizes) q ≡ length (numbers_at (scene_in plan) past step stage q p)

-- the arrays of OUTPUT from a number on
pub record IsBehindSteps (plan : RunPlan) (j p left : ℕ) (st : NodeState) : Type 0 where
  pub session : st.session ≡ session_in plan
  pub within : j ≤ length plan.checked.outputs
  pub left_is : left ≡ length (drop j plan.checked.outputs)
  pub knows : KnowsBehind (scene_in plan) (run_in plan) (completed_of (run_in plan)) j p (held_of st)

-- what is known of what was found without a run
abbrev pub IsPlainFound : Between → Found → Type 0
IsPlainFound b (found.Step number site begun) = IsFitBegun b begun × (number < 2 ^ 63)
IsPlainFound b found.Over = Unit {0}
