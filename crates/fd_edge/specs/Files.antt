-- The numbers of a data file, by its name and how many they are to be.
use Rattle.std.specs.Prelude.{ℕ, ℤ, ◌≡◌, ◌≢◌, ◌<◌, ◌≤◌, List, length, Result, Ok, Err, IfSome}
use Rattle.fd_outside.specs.Causes.{Rose}
use Rattle.fd_data.specs.Data.{data_of}
use Rattle.fd_data.specs.declared.read.DataFault.{DataFault}
use Rattle.fd_data.specs.declared.read.DataFault.TheVariants.{TooLong}
use Rattle.fd_edge.specs.Readings.{Told, Reading}
use Rattle.fd_edge.specs.declared.file.FileStop.{FileStop}
use Rattle.fd_edge.specs.declared.file.FileStop.TheVariants.{Unread, Fault, Memory}

-- the bytes are what this file holds, where that is told
abbrev pub IsHeld : Told → List ℕ → List ℕ → Type 0
IsHeld contents name bytes = IfSome (contents name) (λ held. bytes ≡ held)

-- the file was read, and has bytes that come to this
pub record Reads (contents : Told) (name : List ℕ) (count : ℕ) (end : Result (List ℤ) DataFault) : Type 0 where
  pub bytes : List ℕ
  pub held : IsHeld contents name bytes
  pub short : length bytes ≤ 33554432
  pub numbers : data_of bytes count ≡ end

-- the file has this fault
abbrev pub HasDataFault : Told → List ℕ → ℕ → DataFault → Type 0
HasDataFault contents name count TooLong = IfSome (contents name) (λ held. 33554432 < length held)
HasDataFault contents name count fault = Reads contents name count (Err fault)

-- what comes of the file: its numbers, a read that failed, or its fault
abbrev pub IsFileEnd : Reading → List ℕ → ℕ → Result (List ℤ) FileStop → Type 0
IsFileEnd r name count (Ok values) = Reads r.contents name count (Ok values)
IsFileEnd r name count (Err Unread) = Rose (r.before name) (r.now name)
IsFileEnd r name count (Err (Fault fault)) = HasDataFault r.contents name count fault
IsFileEnd r name count (Err Memory) = Unit {0}

-- what comes of bytes that were read
abbrev pub IsNumbersEnd : List ℕ → ℕ → Result (List ℤ) FileStop → Type 0
IsNumbersEnd bytes count (Ok values) = data_of bytes count ≡ Ok values
IsNumbersEnd bytes count (Err Unread) = ⊥
IsNumbersEnd bytes count (Err (Fault fault)) = (data_of bytes count ≡ Err fault) × (fault ≢ TooLong)
IsNumbersEnd bytes count (Err Memory) = Unit {0}
