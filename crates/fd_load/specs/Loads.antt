-- The store before a run, from the data files.
use Rattle.std.specs.Prelude.{ℕ, ℤ, ◌≡◌, List, [], ◌∷◌, ◌++◌, Result, Ok, Err}
use Rattle.chaos_dist.specs.Homes.{natural}
use Rattle.fd_outside.specs.Causes.{Rose}
use Rattle.fd_edge.specs.Readings.{Told, Reading}
use Rattle.fd_program.specs.Stores.{array_at, filled, initial_store}
use Rattle.fd_program.specs.declared.array.ArrayFacts.{ArrayFacts}
use Rattle.fd_program.specs.declared.checked.Checked.{Checked}
use Rattle.fd_load.specs.Files.{file_of, ReadsArray, HasArrayFault}
use Rattle.fd_load.specs.declared.store.LoadStop.{LoadStop}
use Rattle.fd_load.specs.declared.store.LoadStop.TheVariants.{Unread, Fault, Memory}

-- the files of these arrays, in order, have these numbers
abbrev pub AllRead : Told → List ArrayFacts → List ℤ → List (List ℤ) → Type 0
AllRead contents arrays [] [] = Unit {0}
AllRead contents arrays [] (values ∷ lists) = ⊥
AllRead contents arrays (number ∷ numbers) [] = ⊥
AllRead contents arrays (number ∷ numbers) (values ∷ lists) =
    ReadsArray contents (array_at arrays (natural number)) (Ok values) × AllRead contents arrays numbers lists

-- this array is read, and the files of all that are read before it have numbers
pub record IsArrayReached (contents : Told) (c : Checked) (array : ℕ) : Type 0 where
  pub before : List ℤ
  pub number : ℤ
  pub after : List ℤ
  pub split : c.reads ≡ before ++ number ∷ after
  pub is : array ≡ natural number
  pub lists : List (List ℤ)
  pub read : AllRead contents c.arrays before lists

-- a read of the file of this array failed
abbrev pub ArrayFailed : Reading → Checked → ℕ → Type 0
ArrayFailed r c array = Rose (r.before (file_of (array_at c.arrays array))) (r.now (file_of (array_at c.arrays array)))

-- what comes of the files of a program
abbrev pub IsLoaded : Reading → Checked → Result (List (List ℤ)) LoadStop → Type 0
IsLoaded r c (Ok store) = (lists : List (List ℤ)) × (AllRead r.contents c.arrays c.reads lists × (store ≡ initial_store c lists))
IsLoaded r c (Err (Unread array)) = IsArrayReached r.contents c array × ArrayFailed r c array
IsLoaded r c (Err (Fault array fault)) = IsArrayReached r.contents c array × HasArrayFault r.contents (array_at c.arrays array) fault
IsLoaded r c (Err Memory) = Unit {0}

-- what comes of one array's file, and of the store
abbrev pub IsFilled : Reading → Checked → ℤ → List (List ℤ) → List (List ℤ) → Result (Unit {0}) LoadStop → Type 0
IsFilled r c number old new (Ok u) =
    (values : List ℤ) × (ReadsArray r.contents (array_at c.arrays (natural number)) (Ok values) × (new ≡ filled old (number, values)))
IsFilled r c number old new (Err (Unread array)) = (array ≡ natural number) × ArrayFailed r c array
IsFilled r c number old new (Err (Fault array fault)) =
    (array ≡ natural number) × HasArrayFault r.contents (array_at c.arrays array) fault
IsFilled r c number old new (Err Memory) = Unit {0}
