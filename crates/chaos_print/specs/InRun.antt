-- An array printed in a run, by a PRINT or for an OUTPUT.
use Rattle.std.specs.Prelude.{◌≡◌, ℕ, ◌≤◌, ◌<◌, ℤ, List, [], ◌∷◌, length, drop, map, filter}
use Rattle.std.specs.List.{AllByRecursion}
use Rattle.fd_words.specs.Lists.{list_at}
use Rattle.bsp_core.specs.Views.{ready}
use Rattle.chaos_dist.specs.Counting.{below}
use Rattle.fd_program.specs.StepLaws.{IsStepOf}
use Rattle.chaos_letter.specs.declared.letter.Letter.{Letter}
use Rattle.fd_program.specs.Checks.{IsChecked, layout_extent}
use Rattle.fd_program.specs.Layouts.{Scene, owners_at, store_at}
use Rattle.fd_program.specs.RunLaws.{IsHistory}
use Rattle.fd_program.specs.Stores.{FitsStore}
use Rattle.fd_program.specs.Texts.{line_for}
use Rattle.fd_program.specs.declared.trace.Step.{Step}
use Rattle.fd_program.specs.declared.trace.Step.TheVariants.{Print}
use Rattle.plan_run.specs.Held.{Held, Stands, text_on}
use Rattle.plan_run.specs.Phases.{Phase, is_sent, letter_of, numbers_at, print_rows}
use Rattle.plan_run.specs.Rows.{RunPlan, node_row, phases_in, scene_in}
use Rattle.plan_run.specs.declared.stage.Stage.{Stage}
use Rattle.plan_run.specs.declared.stage.Stage.TheVariants as stage
use Rattle.chaos_print.specs.Printing.{print_text, rows_held}

-- ---- rows

-- each decomposition has as many owners as elements
abbrev pub AreAllOwned : Scene → List Step → Type 0
AreAllOwned s past = (d : ℕ) → d < length s.checked.layouts → length (list_at (owners_at s past) d) ≡ layout_extent s.checked.layouts d

-- so it is at each step of a run
abbrev pub ElementsAreOwned : Type 0
ElementsAreOwned =
    (s : Scene) (past : List Step) → FitsStore s.checked.arrays (store_at s []) → IsHistory s past
    → AllByRecursion (IsStepOf s.checked) past
    → AreAllOwned s past

-- the rows of what a node holds are those of the array
abbrev pub RowsAreHeld : Type 0
RowsAreHeld =
    (s : Scene) (past : List Step) (p array : ℕ) (v : Held) → IsChecked s.checked → AreAllOwned s past → Stands s past p v
    → rows_held s.checked.arrays v.elements v.parts array ≡ print_rows s.checked (owners_at s past) (store_at s past) array p

-- ---- letters

-- the letters that are due to p in a phase, by ascending sender
abbrev pub letters_to : Scene → Phase → ℕ → List Letter
letters_to s f p = map (λ q. letter_of s f q p) (filter (λ q. is_sent f.stage q p) (below s.nodes))

-- they are what p has as the work of the phase is due
abbrev pub LettersCameIn : Type 0
LettersCameIn =
    (plan : RunPlan) (t p : ℕ) (f : Phase) (later : List Phase) → p < plan.nodes → drop t (phases_in plan) ≡ f ∷ later
    → (ready (node_row plan t) p).got ≡ letters_to (scene_in plan) f p

-- ---- lines

-- an array is printed
abbrev pub IsPrintStage : Stage → Type 0
IsPrintStage stage.Print = Unit {0}
IsPrintStage (stage.Output j) = Unit {0}
IsPrintStage _ = ⊥

-- node 0 writes the line of the array before the step, and the others nothing
abbrev pub LinesArePrinted : Type 0
LinesArePrinted =
    (s : Scene) (f : Phase) (p array : ℕ) (own : List ℤ) (got : List Letter)
    → 1 ≤ s.nodes → FitsStore s.checked.arrays (store_at s f.past) → IsPrintStage f.stage → f.step ≡ Print array
    → own ≡ numbers_at s f.past f.step f.stage p p → got ≡ letters_to s f p
    → print_text s.checked.arrays p array own got ≡ text_on p (line_for s.checked (store_at s f.past) array)
