-- The particles that the files give: first bins, each one of the bins, and values.
use Rattle.std.specs.Prelude.{ℕ, ℤ, pos, ◌≡◌, ◌+◌, ◌||◌, Bool, int_lt, List, Option, Some, None, Result, Ok, Err, codes, position}
use Rattle.fd_edge.specs.Endings.{StopsAs}
use Rattle.fd_edge.specs.Files.{Reads}
use Rattle.fd_edge.specs.Lines.{record_line}
use Rattle.fd_edge.specs.Readings.{Reading}
use Rattle.fd_edge.specs.Unusable.{IsUnusable}
use Rattle.fd_edge.specs.declared.ending.Stop.{Stop}
use Rattle.chaos_append.specs.Asked.{AskedToAppend}
use Rattle.chaos_append.specs.declared.particles.Particles.{Particles}

-- a number that isn't one of the bins, and the first of these
abbrev pub is_outside : ℕ → ℤ → Bool
is_outside bins b = int_lt b (pos 1) || int_lt (pos bins) b

abbrev pub first_outside : ℕ → List ℤ → Option ℕ
first_outside bins numbers = position (is_outside bins) numbers

-- the file of first bins was read, and each is one of the bins
pub record AreRead (w : AskedToAppend) (r : Reading) (firsts : List ℤ) : Type 0 where
  pub read : Reads r.contents w.bin_file w.count (Ok firsts)
  pub within : first_outside w.bins firsts ≡ None

-- Why there are no particles: the first file gives no numbers, or one that isn't one of the bins; or they are, and the second
-- file gives no numbers.
pub data ReadingStops (w : AskedToAppend) (r : Reading) : ℕ → List ℕ → Type 0 where
  in_bins : (status : ℕ) (line : List ℕ) → IsUnusable r w.count w.bin_file status line → ReadingStops w r status line
  no_such_bin : (firsts : List ℤ) → Reads r.contents w.bin_file w.count (Ok firsts) → (at : ℕ) → first_outside w.bins firsts ≡ Some at
      → ReadingStops w r 66 (record_line w.bin_file (at + 1) (codes "no such bin"))
  in_values : (firsts : List ℤ) → AreRead w r firsts → (status : ℕ) (line : List ℕ) → IsUnusable r w.count w.value_file status line
      → ReadingStops w r status line

-- the particles of the files
pub record GivesParticles (w : AskedToAppend) (r : Reading) (firsts amounts : List ℤ) : Type 0 where
  pub bins : AreRead w r firsts
  pub values : Reads r.contents w.value_file w.count (Ok amounts)

-- ---- what calls give

-- of numbers: themselves, or the line of the first that isn't one of the bins
abbrev pub AreBins : List ℕ → ℕ → List ℤ → Result (List ℤ) Stop → Type 0
AreBins name bins numbers (Ok firsts) = (firsts ≡ numbers) × (first_outside bins numbers ≡ None)
AreBins name bins numbers (Err stop) =
    (at : ℕ) × (first_outside bins numbers ≡ Some at)
    × StopsAs (λ status line. (status ≡ 66) × (line ≡ record_line name (at + 1) (codes "no such bin"))) stop

abbrev pub IsBinsEnd : Reading → AskedToAppend → Result (List ℤ) Stop → Type 0
IsBinsEnd r w (Ok firsts) = AreRead w r firsts
IsBinsEnd r w (Err stop) = StopsAs (ReadingStops w r) stop

abbrev pub IsParticlesEnd : Reading → AskedToAppend → Result Particles Stop → Type 0
IsParticlesEnd r w (Ok particles) = GivesParticles w r particles.bins particles.values
IsParticlesEnd r w (Err stop) = StopsAs (ReadingStops w r) stop
