-- How a call may end: what comes of it, and what it leaves.
use Rattle.std.specs.Prelude.{ℕ, ◌≡◌, ◌⊎◌, List, Option, Some, None, Result, Ok, Err}
use Rattle.fd_outside.specs.Causes.{Rose, appended, WrittenInPart}
use Rattle.fd_words.specs.declared.wanting.Memory as wanting
use Rattle.fd_edge.specs.declared.ending.Stop.{Stop}
use Rattle.fd_edge.specs.declared.ending.Stop.TheVariants.{Line, Memory}

-- What comes of a call: the status, the bytes to write, and the letters that are left, if nodes ran. Those stand in what was played, or in
-- a Mail.
pub record Outcome (A : Type 0) : Type 0 where
  pub status : ℕ
  pub bytes : List ℕ
  pub letters : Option A

-- a line, and no node ran
abbrev pub a_line : {A : Type 0} → ℕ → List ℕ → Outcome A
a_line status bytes = record { status = status; bytes = bytes; letters = None }

-- what a call leaves: the sink's count of failures, what was written to it, and the letters, in what was played or in a Mail
pub record Left (A : Type 0) : Type 0 where
  pub failures : ℕ
  pub written : Option (List ℕ)
  pub letters : A

abbrev pub left : {A : Type 0} → ℕ → Option (List ℕ) → A → Left A
left failures written letters = record { failures = failures; written = written; letters = letters }

-- the same of a sink, by what it counts and has
abbrev pub leaves : {S A : Type 0} → (S → ℕ) → (S → Option (List ℕ)) → S → A → Left A
leaves faults written out letters = left (faults out) (written out) letters

-- the letters after an outcome: those of its nodes, or what stood there
abbrev pub letters_after : {A : Type 0} → Option A → A → A
letters_after None old = old
letters_after (Some letters) old = letters

-- ---- one write

-- the bytes were written whole, or the sink failed in this call and a proper prefix of them was
abbrev pub IsWritten : ℕ → List ℕ → ℕ → ℕ → ℕ → Option (List ℕ) → Option (List ℕ) → Type 0
IsWritten status bytes result before now old new =
    ((result ≡ status) × (new ≡ appended old bytes)) ⊎ ((result ≡ 74) × (Rose before now × WrittenInPart old new bytes))

-- a line was written, or memory was wanting for it
abbrev pub IsLine : ℕ → List ℕ → ℕ → ℕ → ℕ → Option (List ℕ) → Option (List ℕ) → Type 0
IsLine status bytes result before now old new = IsWritten status bytes result before now old new ⊎ ((result ≡ 70) × (new ≡ old))

-- ---- where there is no run

abbrev pub stop_of : ℕ → Result (List ℕ) wanting.Memory → Stop
stop_of status (Ok line) = Line status line
stop_of status (Err memory) = Memory

-- a line of which this is said is to be written, or memory is wanting
abbrev pub StopsAs : (ℕ → List ℕ → Type 0) → Stop → Type 0
StopsAs Says (Line status line) = Says status line
StopsAs Says Memory = Unit {0}

-- its line was written, or memory was wanting
abbrev pub IsStopped : Stop → ℕ → ℕ → ℕ → Option (List ℕ) → Option (List ℕ) → Type 0
IsStopped (Line status line) result before now old new = IsWritten status line result before now old new
IsStopped Memory result before now old new = (result ≡ 70) × (new ≡ old)

-- ---- the end

-- an outcome came to an end
pub record Ends {A : Type 0} (o : Outcome A) (result : ℕ) (old new : Left A) : Type 0 where
  pub wrote : IsWritten o.status o.bytes result old.failures new.failures old.written new.written
  pub letters : new.letters ≡ letters_after o.letters old.letters

-- memory was wanting: nothing was written, and the letters may be cut off
pub record IsWanting {A : Type 0} (IsCut : A → A → Type 0) (result : ℕ) (old new : Left A) : Type 0 where
  pub status : result ≡ 70
  pub written : new.written ≡ old.written
  pub letters : IsCut old.letters new.letters

-- all stays
abbrev pub Stays : {A : Type 0} → A → A → Type 0
Stays old new = new ≡ old

-- one of these outcomes came to an end, or memory was wanting
abbrev pub EndsBy : {A : Type 0} → (Outcome A → Type 0) → (A → A → Type 0) → ℕ → Left A → Left A → Type 0
EndsBy {A} Comes IsCut result old new = ((o : Outcome A) × (Comes o × Ends o result old new)) ⊎ IsWanting IsCut result old new

-- ---- where nothing failed

-- an outcome came to its end, whole
pub record IsWhole {A : Type 0} (o : Outcome A) (result : ℕ) (old new : Left A) : Type 0 where
  pub status : result ≡ o.status
  pub written : new.written ≡ appended old.written o.bytes
  pub letters : new.letters ≡ letters_after o.letters old.letters

-- an outcome that isn't that of a failed read came to its end, whole
pub record EndsWhole {A : Type 0} (o : Outcome A) (result : ℕ) (old new : Left A) : Type 0 where
  pub status : result ≡ o.status
  pub read : (result ≡ 69) → ⊥
  pub written : new.written ≡ appended old.written o.bytes
  pub letters : new.letters ≡ letters_after o.letters old.letters

-- what comes, whole, and no failed read; or want of memory
abbrev pub IsComplete : {A : Type 0} → (Outcome A → Type 0) → (A → A → Type 0) → ℕ → Left A → Left A → Type 0
IsComplete {A} Comes IsCut result old new = ((o : Outcome A) × (Comes o × EndsWhole o result old new)) ⊎ IsWanting IsCut result old new
