-- A move in a run: the step DISTRIBUTE of decomposition d after the steps `past`.
use Rattle.std.specs.Prelude.{◌≡◌, ℕ, ◌<◌, ◌≤◌, List, ◌∷◌, Some, All, length, map, pos, slice_get}
use Rattle.fd_words.specs.Lists.{list_at}
use Rattle.chaos_dist.specs.Counting.{below}
use Rattle.chaos_dist.specs.Owners.{elements_on}
use Rattle.chaos_dist.specs.declared.step_form.StepForm.{StepForm}
use Rattle.fd_program.specs.Places.{part_of}
use Rattle.fd_program.specs.Layouts.{Scene, owners_at, owners_by, store_at}
use Rattle.fd_program.specs.declared.array.LayoutName.{LayoutName}
use Rattle.fd_program.specs.declared.trace.Step.{Step}
use Rattle.fd_program.specs.declared.trace.Step.TheVariants.{Distribute}
use Rattle.plan_run.specs.Held.{Held, Stands, owed_at}
use Rattle.plan_run.specs.Phases.{arrays_in, numbers_at}
use Rattle.plan_run.specs.declared.stage.Stage.{Stage}
use Rattle.chaos_moving.specs.IsMoving.{lists_moved, taken_in}

-- the owners after the step
abbrev pub owners_after : Scene → List Step → ℕ → StepForm → List ℕ
owners_after s past d form = list_at (owners_at s (Distribute d form ∷ past)) d

-- the lists that a node sends and takes are those of the run
abbrev pub LettersAreOfRun : Type 0
LettersAreOfRun = (s : Scene) (past : List Step) (d : ℕ) (form : StepForm) (stage : Stage) (p : ℕ)
    → (lists_moved s (owners_at s past) (store_at s past) d (owners_after s past d form) stage p
    ≡ map (λ q. numbers_at s past (Distribute d form) stage p q) (below s.nodes))
    × (taken_in s (owners_at s past) (store_at s past) d (owners_after s past d form) stage p ≡ owed_at s past (Distribute d form) stage p)

-- the new owners are those by the form, and a map's values are those before the step
abbrev pub OwnersAreByForm : Type 0
OwnersAreByForm = (s : Scene) (past : List Step) (d : ℕ) (form : StepForm) (l : LayoutName) → slice_get s.checked.layouts d ≡ Some l
    → owners_after s past d form ≡ owners_by s l.extent (form, past)

-- each owner is a node
abbrev pub OwnersAreNodes : Type 0
OwnersAreNodes = (s : Scene) (past : List Step) (d : ℕ) → 1 ≤ s.nodes → All (λ o. o < s.nodes) (list_at (owners_at s past) d)

-- what a node holds between the steps tells its share of each decomposition, and its part of each array
pub record IsTold (s : Scene) (past : List Step) (p : ℕ) (v : Held) : Type 0 where
  pub mine : (d : ℕ) → list_at v.elements d ≡ map pos (elements_on (list_at (owners_at s past) d) p)
  pub part : (array : ℕ) → array < length s.checked.arrays → list_at v.parts array ≡ part_of s.checked.arrays (owners_at s past)
      (store_at s past) p array
  pub pieces : (d : ℕ) → map (λ array. list_at v.parts array) (arrays_in s.checked d)
      ≡ map (part_of s.checked.arrays (owners_at s past) (store_at s past) p) (arrays_in s.checked d)

abbrev pub SharesAreHeld : Type 0
SharesAreHeld = (s : Scene) (past : List Step) (p : ℕ) (v : Held) → Stands s past p v → IsTold s past p v
