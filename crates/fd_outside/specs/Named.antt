-- What files in memory show.
use Rattle.std.specs.Prelude.{ℕ, ℤ, pos, ◌≡◌, ◌⊎◌, List, [], ◌∷◌, Bool, true, ◌||◌, ◌&&◌, Option, Some, None, is_none, if◌then◌else◌}
use Rattle.std.specs.Prelude.{option_map}
use Rattle.std.specs.List.{list_any}
use Rattle.std.specs.Option.{option_map_or}
use Rattle.std.specs.Ordering.{int_eq}
use Rattle.std.specs.Str.{bytes_eq}
use Rattle.fd_outside.specs.Causes.{risen}
use Rattle.fd_outside.specs.declared.memory.MemoryFile.{MemoryFile}
use Rattle.fd_outside.specs.declared.memory.MemoryFiles.{MemoryFiles}

-- the first file of a name
abbrev pub file_in : List MemoryFile → List ℕ → Option MemoryFile
file_in [] name = None
file_in (f ∷ fs) name = if bytes_eq f.name name then Some f else file_in fs name

-- the files after a change of the first file of a name
abbrev pub changed_in : (MemoryFile → MemoryFile) → List MemoryFile → List ℕ → List MemoryFile
changed_in change [] name = []
changed_in change (f ∷ fs) name = if bytes_eq f.name name then change f ∷ fs else f ∷ changed_in change fs name

-- a file after one more fault
abbrev pub marked : MemoryFile → MemoryFile
marked f = record f { faults = risen f.faults }

-- a file with other bytes
abbrev pub refilled : List ℕ → MemoryFile → MemoryFile
refilled bytes f = record f { bytes = bytes }

abbrev pub bytes_in : List MemoryFile → List ℕ → Option (List ℕ)
bytes_in files name = option_map (λ f. f.bytes) (file_in files name)

abbrev pub faults_in : List MemoryFile → ℕ → List ℕ → ℕ
faults_in files absent name = option_map_or (λ f. f.faults) (file_in files name) absent

-- what the file of a name holds
abbrev pub contents_of : MemoryFiles → List ℕ → Option (List ℕ)
contents_of m name = bytes_in m.files.items name

-- how often a read of a name has failed
abbrev pub faults_of : MemoryFiles → List ℕ → ℕ
faults_of m name = faults_in m.files.items m.absent name

-- the number of the next read
abbrev pub next_read : MemoryFiles → ℕ
next_read m = m.calls

-- the numbers of the reads that fail
abbrev pub failing_reads : MemoryFiles → List ℤ
failing_reads m = m.failing

-- the contents by name, where this name's file holds these bytes
abbrev pub with_contents : (List ℕ → Option (List ℕ)) → List ℕ → List ℕ → List ℕ → Option (List ℕ)
with_contents contents name bytes other = if bytes_eq other name then Some bytes else contents other

-- whether two names have one count: they are the same, or neither is there
abbrev pub share_count : (List ℕ → Option (List ℕ)) → List ℕ → List ℕ → Bool
share_count contents name other = bytes_eq other name || (is_none (contents name) && is_none (contents other))

-- the counts by name after one more fault of this name
abbrev pub after_fault : MemoryFiles → List ℕ → List ℕ → ℕ
after_fault m name other = if share_count (contents_of m) name other then risen (faults_of m other) else faults_of m other

-- the next read of this name fails: its number is listed, or there is no such file
abbrev pub CannotRead : MemoryFiles → List ℕ → Type 0
CannotRead m name = (list_any (λ v. int_eq v (pos m.calls)) m.failing ≡ true) ⊎ (contents_of m name ≡ None)
