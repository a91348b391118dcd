-- An array printed at a phase of a plan: what that builds on, and the text that it leaves.
use Rattle.std.specs.Prelude.{◌≡◌, ℕ, ◌+◌, ◌<◌, List, ◌∷◌, ◌++◌, length, drop, reverse, slice_get, Some}
use Rattle.bsp_core.specs.Views.{ready}
use Rattle.fd_program.specs.Checks.{IsChecked}
use Rattle.fd_program.specs.Layouts.{Scene, store_at}
use Rattle.fd_program.specs.RunLaws.{IsHistory}
use Rattle.fd_program.specs.Runs.{Run}
use Rattle.fd_program.specs.Stores.{FitsStore}
use Rattle.fd_program.specs.Texts.{refusal_text}
use Rattle.fd_program.specs.Trace.{trace_of}
use Rattle.fd_program.specs.declared.array.OutputName.{OutputName}
use Rattle.fd_program.specs.declared.trace.Step.{Step}
use Rattle.fd_program.specs.declared.trace.Step.TheVariants.{Print}
use Rattle.plan_run.specs.Held.{AtPhase, Held, lines_of, text_at, text_on, whole_text}
use Rattle.plan_run.specs.Phases.{Phase}
use Rattle.plan_run.specs.Rows.{RunPlan, node_row, phases_in, run_in, scene_in}
use Rattle.plan_run.specs.declared.stage.Stage.TheVariants as stage
use Rattle.chaos_print.specs.InRun.{AreAllOwned}
use Rattle.chaos_print.specs.Printing.{print_text}

-- ---- what a print builds on

-- each element has an owner, and the store has a list of each array's extent
pub record CanPrint (s : Scene) (past : List Step) : Type 0 where
  pub owned : AreAllOwned s past
  pub fits : FitsStore s.checked.arrays (store_at s past)

-- so it is behind completed steps of a plan
abbrev pub PlansCanPrint : Type 0
PlansCanPrint =
    (plan : RunPlan) (past rest : List Step) → IsChecked plan.checked → FitsStore plan.checked.arrays plan.store
    → reverse past ++ rest ≡ trace_of plan.checked → IsHistory (scene_in plan) past → CanPrint (scene_in plan) past

-- ---- the text behind it

-- an array is printed in phase t, and this is what p held as the phase began
pub record IsPrinting (plan : RunPlan) (t p : ℕ) (f : Phase) (later : List Phase) (array : ℕ) (v : Held) : Type 0 where
  pub node : p < plan.nodes
  pub left : drop t (phases_in plan) ≡ f ∷ later
  pub step : f.step ≡ Print array
  pub at : AtPhase (scene_in plan) (run_in plan) f p v
  pub fits : FitsStore plan.checked.arrays (store_at (scene_in plan) f.past)

-- its text with what it writes once it has taken its letters
abbrev pub text_with : RunPlan → ℕ → ℕ → ℕ → Held → List ℕ
text_with plan t p array v = v.text ++ print_text plan.checked.arrays p array v.own (ready (node_row plan t) p).got

-- behind a PRINT it is that of the steps with this one
abbrev pub PrintsGoOn : Type 0
PrintsGoOn =
    (plan : RunPlan) (t p : ℕ) (f : Phase) (later : List Phase) (array : ℕ) (v : Held) → IsPrinting plan t p f later array v
    → f.stage ≡ stage.Print
    → text_with plan t p array v ≡ text_on p (lines_of (scene_in plan) (Print array ∷ f.past))

-- behind the j-th array of OUTPUT, over the last store, it is that of the next
abbrev pub OutputsGoOn : Type 0
OutputsGoOn =
    (plan : RunPlan) (t p : ℕ) (f : Phase) (later : List Phase) (o : OutputName) (v : Held) (j : ℕ)
    → IsPrinting plan t p f later o.array v → f.stage ≡ stage.Output j → slice_get plan.checked.outputs j ≡ Some o
    → (run_in plan).last ≡ store_at (scene_in plan) f.past
    → text_with plan t p o.array v ≡ text_on p (text_at (scene_in plan) (run_in plan) f.past (stage.Output (j + 1)))

-- before the first array of OUTPUT stand the lines of the PRINTs and the refusal line, and behind the last the text is whole
abbrev pub OutputsBegin : Type 0
OutputsBegin =
    (s : Scene) (run : Run) (past : List Step) → text_at s run past (stage.Output 0) ≡ lines_of s past ++ refusal_text s.checked run.refused

abbrev pub OutputsEnd : Type 0
OutputsEnd = (s : Scene) (run : Run) (past : List Step) → text_at s run past (stage.Output (length s.checked.outputs))
    ≡ whole_text s run past
