-- Files that give no numbers.
use Rattle.std.specs.Prelude.{ℕ, ◌≡◌, List, Result, Ok, Err, IfOk}
use Rattle.std.proofs.Common.{sym, subst, arith}
use Rattle.fd_words.specs.declared.wanting.Memory as wanting
use Rattle.fd_outside.specs.Causes.{NoneFell, Rose}
use Rattle.fd_data.specs.declared.read.DataFault.{DataFault}
use Rattle.fd_edge.specs.Endings.{StopsAs, stop_of}
use Rattle.fd_edge.specs.Files.{HasDataFault}
use Rattle.fd_edge.specs.Lines.{data_line, unread_line}
use Rattle.fd_edge.specs.Readings.{Counts, Reading, Told, reading, rose_within}

-- why a file gives no numbers, with the status and the line that say so: it can't be read, or has a fault
pub data IsUnusable (r : Reading) (count : ℕ) (name : List ℕ) : ℕ → List ℕ → Type 0 where
  unread : Rose (r.before name) (r.now name) → IsUnusable r count name 69 (unread_line name)
  faulty : (fault : DataFault) → HasDataFault r.contents name count fault → IsUnusable r count name 66 (data_line name fault)

-- its line
pub stops_with : (r : Reading) (count : ℕ) (name : List ℕ) (status : ℕ) (line : Result (List ℕ) wanting.Memory) (bytes : List ℕ)
    → IfOk line (λ l. l ≡ bytes) → IsUnusable r count name status bytes → StopsAs (IsUnusable r count name) (stop_of status line)
stops_with r count name status (Ok line) bytes is unusable = subst (IsUnusable r count name status) (sym is) unusable
stops_with r count name status (Err memory) bytes is unusable = tt

-- 69 comes of a failed read alone, and 0 of no such file
pub unusable_failed : {r : Reading} {count : ℕ} {name : List ℕ} {status : ℕ} {line : List ℕ} → IsUnusable r count name status line
    → status ≡ 69 → Rose (r.before name) (r.now name)
unusable_failed (unread rose) e = rose
unusable_failed (faulty fault has) e = absurd (omega (arith, e))

pub unusable_status : {r : Reading} {count : ℕ} {name : List ℕ} {status : ℕ} {line : List ℕ} → IsUnusable r count name status line
    → status ≡ 0 → ⊥
unusable_status (unread rose) e = omega (arith, e)
unusable_status (faulty fault has) e = omega (arith, e)

-- a file that gave no numbers in a part of a call
pub unusable_within : (contents from_contents : Told) (before from now : Counts) (count : ℕ) (name : List ℕ) (status : ℕ) (line : List ℕ)
    → from_contents ≡ contents → NoneFell before from → IsUnusable (reading from_contents from now) count name status line
    → IsUnusable (reading contents before now) count name status line
unusable_within contents from_contents before from now count name status line same none (IsUnusable.unread rose) =
    IsUnusable.unread (rose_within (before name) (from name) (now name) (now name) (none name) (omega arith) rose)
unusable_within contents from_contents before from now count name status line same none (IsUnusable.faulty fault has) =
    IsUnusable.faulty fault (subst (λ told. HasDataFault told name count fault) same has)
