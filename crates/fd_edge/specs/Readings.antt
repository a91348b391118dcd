-- Files as a call read them.
use Rattle.std.specs.Prelude.{ℕ, ◌≤◌, List, Option}
use Rattle.std.proofs.Common.{arith}
use Rattle.fd_outside.specs.Causes.{Rose}

-- what the files hold, where it is told, and counts of failed reads by name
abbrev pub Told : Type 0
Told = List ℕ → Option (List ℕ)

abbrev pub Counts : Type 0
Counts = List ℕ → ℕ

-- what the files hold, and the counts before and after the call
pub record Reading : Type 0 where
  pub contents : Told
  pub before : Counts
  pub now : Counts

abbrev pub reading : Told → Counts → Counts → Reading
reading contents before now = record { contents = contents; before = before; now = now }

-- the same of a source of files, by what it holds and counts, before and after the call
abbrev pub files_read : {F : Type 0} → (F → Told) → (F → Counts) → F → F → Reading
files_read contents faults old new = reading (contents old) (faults old) (faults new)

-- a count that rose in a part of a call rose in the call
pub rose_within : (before from to now : ℕ) → before ≤ from → to ≤ now → Rose from to → Rose before now
rose_within before from to now earlier later rose = omega (arith, earlier, later, rose)
