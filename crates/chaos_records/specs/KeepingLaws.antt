-- Over the steps of a run the numbers that are kept are those that the steps tell.
use Rattle.std.specs.Prelude.{◌≡◌, ℕ, ◌<◌, ◌≤◌, not, ◌&&◌, ◌==◌, List, [], ◌∷◌, length, fold}
use Rattle.std.specs.List.{list_any}
use Rattle.std.specs.Option.{option_map}
use Rattle.chaos_dist.specs.declared.step_form.StepForm.{StepForm}
use Rattle.fd_program.specs.Checks.{IsFormOf}
use Rattle.fd_program.specs.Past.{is_changing, is_repeat, version_at, record_at, latest_of, inspects_at}
use Rattle.fd_program.specs.Trace.{is_empty_turn}
use Rattle.fd_program.specs.declared.checked.Checked.{Checked}
use Rattle.fd_program.specs.declared.trace.LoopTurn.{LoopTurn}
use Rattle.fd_program.specs.declared.trace.Step.{Step}
use Rattle.fd_program.specs.declared.trace.Step.TheVariants.{Distribute, Print, Forall}
use Rattle.chaos_records.specs.Keeping.{Keeps, no_records, written_at, moved, is_repeated, record_in, differs}
use Rattle.chaos_records.specs.declared.records.Records.{Records}

-- before the first step
abbrev pub NewKeeps : Type 0
NewKeeps = (c : Checked) → Keeps c [] (no_records (length c.arrays) (length c.layouts))

-- a PRINT
abbrev pub PrintKeeps : Type 0
PrintKeeps = (c : Checked) (past : List Step) (array : ℕ) (r : Records) → Keeps c past r → Keeps c (Print array ∷ past) r

-- a FORALL: each array that it changes is noted, once or more, in any order
abbrev pub WritesKeep : Type 0
WritesKeep =
    (c : Checked) (past : List Step) (site : ℕ) (turn : LoopTurn) (arrays : List ℕ) (r : Records) → Keeps c past r
    → ((array : ℕ) → array < length c.arrays → list_any (λ a. a == array) arrays ≡ is_changing c site turn array)
    → Keeps c (Forall site turn ∷ past) (fold (written_at (length past)) r arrays)

-- a DISTRIBUTE: it is found to be a repeat exactly where it is one
abbrev pub MoveKeeps : Type 0
MoveKeeps =
    (c : Checked) (past : List Step) (d : ℕ) (form : StepForm) (r : Records) → Keeps c past r
    → d < length c.layouts → IsFormOf c.arrays c.layouts d form
    → (is_repeated r d form ≡ is_repeat c past d form) × Keeps c (Distribute d form ∷ past) (moved r d form)

-- the record is that of the execution
abbrev pub RecordsAreExact : Type 0
RecordsAreExact =
    (c : Checked) (past : List Step) (site : ℕ) (turn : LoopTurn) (r : Records) → Keeps c past r
    → record_in r c site turn ≡ record_at c past site turn

-- an execution inspects where its record differs from that of the latest one, if its range isn't empty
abbrev pub InspectionsAreKnown : Type 0
InspectionsAreKnown =
    (c : Checked) (past : List Step) (site : ℕ) (turn : LoopTurn)
    → inspects_at c past site turn
    ≡ (not (is_empty_turn turn) && differs (record_at c past site turn) (option_map (λ (latest, before). record_at c before site latest)
    (latest_of past site)))

-- a version is at most the number of steps
abbrev pub VersionsAreFew : Type 0
VersionsAreFew = (c : Checked) (past : List Step) (d : ℕ) → version_at c past d ≤ length past
