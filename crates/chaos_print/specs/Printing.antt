-- The rows of an array on a node, the array from the rows of all nodes, and the text that a node writes of it.
use Rattle.std.specs.Prelude.{ℕ, ℤ, pos, ◌-ℤ◌, Bool, ◌&&◌, ◌==◌, int_le, if◌then◌else◌, List, [], ◌∷◌, ◌++◌, map, replicate, slice_set}
use Rattle.std.specs.Prelude.{Option, Some, None}
use Rattle.fd_words.specs.Lists.{list_at}
use Rattle.chaos_letter.specs.declared.letter.Letter.{Letter}
use Rattle.fd_program.specs.Places.{decomposition_of}
use Rattle.fd_program.specs.Stores.{array_at, place_of}
use Rattle.fd_program.specs.Texts.{line_of}
use Rattle.fd_program.specs.declared.array.ArrayFacts.{ArrayFacts}

-- a number that is one of the elements 1 to the extent, and can stand in a row
abbrev pub is_row : ℕ → ℤ → Bool
is_row extent z = int_le (pos 1) z && int_le z (pos extent) && int_le z (pos 9223372036854775807)

abbrev pub number_if : Bool → ℤ → Option ℤ
number_if b z = if b then Some z else None

abbrev pub row_of : Option ℤ → ℤ → List ℤ
row_of None value = []
row_of (Some z) value = z ∷ value ∷ []

-- the row of element e of the decomposition, if the array has an element there
abbrev pub own_row : ArrayFacts → ℤ → ℤ → List ℤ
own_row a e value = row_of (number_if (is_row a.extent (e -ℤ a.offset)) (e -ℤ a.offset)) value

-- the rows of these elements with these values beside them
abbrev pub rows_owned : ArrayFacts → List ℤ → List ℤ → List ℤ
rows_owned a (e ∷ es) (v ∷ vs) = own_row a e v ++ rows_owned a es vs
rows_owned a _ _ = []

-- the rows of an array on a node, whose elements and local parts these are
abbrev pub rows_held : List ArrayFacts → List (List ℤ) → List (List ℤ) → ℕ → List ℤ
rows_held arrays elements parts array = rows_owned (array_at arrays array) (list_at elements (decomposition_of arrays array))
    (list_at parts array)

-- the value of each row at its element
abbrev pub filled_by_rows : List ℤ → List ℤ → List ℤ
filled_by_rows values (z ∷ v ∷ rows) = filled_by_rows (slice_set values (place_of z) v) rows
filled_by_rows values _ = values

-- several lists of rows, one after another
abbrev pub filled_all : List ℤ → List (List ℤ) → List ℤ
filled_all values [] = values
filled_all values (rows ∷ rest) = filled_all (filled_by_rows values rows) rest

-- node 0 puts the rows of all nodes at their places, its own first, and writes the line; the others write nothing
abbrev pub print_text : List ArrayFacts → ℕ → ℕ → List ℤ → List Letter → List ℕ
print_text arrays me array own got =
    if me == 0
    then line_of (array_at arrays array).name (filled_all (replicate (array_at arrays array).extent (pos 0))
    (own ∷ map (λ (x : Letter). x.numbers) got))
    else []
