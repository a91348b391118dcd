-- What a call answers, and what it says where nothing failed.
use Rattle.std.specs.Prelude.{ℕ, ℤ, ◌≡◌, List, Option, Some, String, map, string_bytes}
use Rattle.fd_outside.specs.Causes.{Rose}
use Rattle.fd_edge.specs.Endings.{Outcome, Left, Stays, EndsBy, IsWhole, IsComplete}
use Rattle.fd_edge.specs.Readings.{Reading}
use Rattle.fd_program.specs.Stores.{array_at}
use Rattle.fd_command.specs.Asked.{Asked, file}
use Rattle.fd_command.specs.declared.request.Manner.{Manner}
use Rattle.fd_front.specs.Sources.{IsSource}
use Rattle.fd_front.specs.declared.source.Source.{Source}
use Rattle.fd_load.specs.Files.{file_of}
use Rattle.fd_load.specs.Loads.{IsArrayReached}
use Rattle.fd_top.specs.Outcomes.{IsText, data_read, Accepted, ToCome, usage_line, PlaysRun}
use Rattle.bsp_core.specs.declared.played.Played.{Played}

-- the words of a command line
abbrev pub texts : {A : Type 0} → List (String A) → List (List ℕ)
texts words = map string_bytes words

-- how runs of some kind over a store come out, and how letters are cut where memory is wanting
abbrev pub RunsBy : Type 0 → Type 1
RunsBy A = Manner → Source → List (List ℤ) → Outcome A → Type 0

abbrev pub CutsBy : Type 0 → Type 1
CutsBy A = Option Asked → Reading → A → A → Type 0

-- what comes of the request and the files comes to its end, or memory was wanting
abbrev pub IsAnswered : {A : Type 0} → List ℕ → RunsBy A → CutsBy A → Option Asked → Reading → ℕ → Left A → Left A → Type 0
IsAnswered usage Runs IsCut request r result old new = EndsBy (ToCome usage Runs request r) (IsCut request r) result old new

-- the names of the files that a call may read: that of the source, and those of the arrays that it reads
pub data Names (request : Option Asked) (r : Reading) : List ℕ → Type 0 where
  the_source : (w : Asked) → request ≡ Some w → (name : List ℕ) → w.origin ≡ file name → Names request r name
  an_array : (w : Asked) → request ≡ Some w → (text : List ℕ) → IsText r.contents w.origin text → (s : Source) → IsSource text s
      → (array : ℕ) → IsArrayReached (data_read w.origin r).contents s.checked array
      → Names request r (file_of (array_at s.checked.arrays array))

-- no read of these files failed in this call
abbrev pub NoneFailed : Option Asked → Reading → Type 0
NoneFailed request r = (name : List ℕ) → Names request r name → Rose (r.before name) (r.now name) → ⊥

-- where neither the sink nor such a read failed, what comes is written whole, or memory was wanting
abbrev pub HasCompleted : {A : Type 0} → List ℕ → RunsBy A → CutsBy A → Option Asked → Reading → ℕ → Left A → Left A → Type 0
HasCompleted usage Runs IsCut request r result old new =
    (Rose old.failures new.failures → ⊥) → NoneFailed request r
    → IsComplete (ToCome usage Runs request r) (IsCut request r) result old new

-- it was run right, all of that was written, and its letters stand
pub record RanRight {A : Type 0} (Runs : RunsBy A) (request : Option Asked) (r : Reading) (result : ℕ) (old new : Left A) : Type 0 where
  pub accepted : Accepted request r
  pub outcome : Outcome A
  pub run : Runs accepted.asked.manner accepted.source accepted.store outcome
  pub whole : IsWhole outcome result old new

-- ---- of a player

-- where memory is wanting, what was played stays
abbrev pub PlayStays : CutsBy Played
PlayStays request r = Stays

abbrev pub PlayAnswered : Option Asked → Reading → ℕ → Left Played → Left Played → Type 0
PlayAnswered = IsAnswered usage_line PlaysRun PlayStays

abbrev pub PlayCompleted : Option Asked → Reading → ℕ → Left Played → Left Played → Type 0
PlayCompleted = HasCompleted usage_line PlaysRun PlayStays
