-- The data of a mesh from its seed and its size: `size` elements in a ring, and a chord from each.
use Rattle.std.specs.Prelude.{ℕ, ◌+◌, ◌*◌, ◌%◌, List, [], ◌∷◌, ◌++◌, map, codes, decimal}
use Rattle.std.specs.List.{flat_map, range_with_len}
use Rattle.fd_mesh.specs.declared.files.FileData.{FileData}
use Rattle.fd_mesh.specs.declared.rule.Rule.{Rule}
use Rattle.fd_mesh.specs.declared.rule.Rule.TheVariants as rule

abbrev pub one_to : ℕ → List ℕ
one_to size = range_with_len 1 size

-- the values at the start: each element's number
abbrev pub values_of : ℕ → List ℕ
values_of size = one_to size

-- the numbers that say which node owns each element
abbrev pub map_of : ℕ → ℕ → List ℕ
map_of seed size = map (λ j. 7 * j + seed) (one_to size)

-- where the edges begin: at each element, first one of the ring and then a chord
abbrev pub begins_of : ℕ → List ℕ
begins_of size = one_to size ++ one_to size

-- where they end: the ring's at the next element, a chord at one that the square chooses
abbrev pub ends_of : ℕ → ℕ → List ℕ
ends_of seed size = map (λ j. j % size + 1) (one_to size) ++ map (λ j. (j * j + seed) % size + 1) (one_to size)

-- one number a line, each with its line end
unfoldable pub lines_of : List ℕ → List ℕ
lines_of numbers = flat_map (λ number. decimal number ++ 10 ∷ []) numbers

abbrev pub file_of : List ℕ → List ℕ → FileData
file_of name numbers = record { name = name; content = lines_of numbers }

unfoldable pub files_of : ℕ → ℕ → List FileData
files_of seed size =
    file_of (codes "x.csv") (values_of size)
    ∷ file_of (codes "m.csv") (map_of seed size)
    ∷ file_of (codes "e1.csv") (begins_of size)
    ∷ file_of (codes "e2.csv") (ends_of seed size)
    ∷ []

-- the number that a rule gives at j
abbrev pub number_at : Rule → ℕ → ℕ → ℕ → ℕ
number_at rule.Place seed size j = j
number_at rule.Mapped seed size j = 7 * j + seed
number_at rule.Ring seed size j = j % size + 1
number_at rule.Chord seed size j = (j * j + seed) % size + 1

abbrev pub numbers_by : Rule → ℕ → ℕ → List ℕ
numbers_by r seed size = map (number_at r seed size) (one_to size)
