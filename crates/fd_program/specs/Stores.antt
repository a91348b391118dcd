-- Arrays and stores. A store has one list of values per array; element z of an array stands at place z - 1 of its list.
use Rattle.std.specs.Prelude.{◌≡◌, ℕ, ◌-◌, ℤ, pos, negsuc, Bool, ◌&&◌, int_le, List, [], length, map, fold, zip, replicate, slice_get}
use Rattle.std.specs.Prelude.{slice_set, unwrap_or}
use Rattle.fd_words.specs.Lists.{list_at}
use Rattle.chaos_dist.specs.Homes.{natural}
use Rattle.fd_program.specs.declared.array.ArrayFacts.{ArrayFacts}
use Rattle.fd_program.specs.declared.checked.Checked.{Checked}

-- the number at a place, 0 from the end on
abbrev pub number_at : List ℤ → ℕ → ℤ
number_at numbers at = unwrap_or (slice_get numbers at) (pos 0)

abbrev pub no_array : ArrayFacts
no_array = record { name = []; extent = 0; decomposition = 0; offset = pos 0 }

-- the array with this number
abbrev pub array_at : List ArrayFacts → ℕ → ArrayFacts
array_at arrays array = unwrap_or (slice_get arrays array) no_array

-- the array has an element z
abbrev pub is_within : List ArrayFacts → ℕ → ℤ → Bool
is_within arrays array z = int_le (pos 1) z && int_le z (pos (array_at arrays array).extent)

-- the place of element z
abbrev pub place_of : ℤ → ℕ
place_of (pos z) = z - 1
place_of (negsuc z) = 0

-- the value of element z
abbrev pub element : List (List ℤ) → ℕ → ℤ → ℤ
element store array z = number_at (list_at store array) (place_of z)

-- a store has for each array a list of its extent
abbrev pub FitsStore : List ArrayFacts → List (List ℤ) → Type 0
FitsStore arrays store = map length store ≡ map (λ (a : ArrayFacts). a.extent) arrays

-- ---- the store before the run

abbrev pub zeros_of : List ArrayFacts → List (List ℤ)
zeros_of arrays = map (λ (a : ArrayFacts). replicate a.extent (pos 0)) arrays

abbrev pub filled : List (List ℤ) → ℤ × List ℤ → List (List ℤ)
filled store (array, values) = slice_set store (natural array) values

-- each array that is read has the values of its file, one list for each in order; all others are 0
abbrev pub initial_store : Checked → List (List ℤ) → List (List ℤ)
initial_store c files = fold filled (zeros_of c.arrays) (zip c.reads files)
