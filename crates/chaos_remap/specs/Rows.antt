-- The rows of Remap letters.
use Rattle.std.specs.Prelude.{ℕ, ◌+◌, ◌*◌, ◌/◌, ℤ, List, length, map}
use Rattle.std.specs.List.{flat_map, range_with_len}
use Rattle.std.specs.declared.cmp.Ordering.{Ordering}
use Rattle.std.specs.Ordering.{nat_cmp, int_cmp, ordering_then}
use Rattle.fd_words.specs.Lists.{list_at}
use Rattle.chaos_remap.specs.Remapping.{number_at}
use Rattle.chaos_remap.specs.declared.rows.Row.{Row}

-- by element, then by sender, then as in its letter
abbrev pub row_cmp : Row → Row → Ordering
row_cmp a b = ordering_then (int_cmp a.element b.element) (ordering_then (nat_cmp a.sender b.sender) (nat_cmp a.start b.start))

-- the rows of one letter, each of a width; what is left over is no row
abbrev pub row_of : ℕ → ℕ → List ℤ → ℕ → Row
row_of width sender numbers k = record { element = number_at numbers (k * width); sender = sender; start = k * width }

abbrev pub rows_of : ℕ → ℕ → List ℤ → List Row
rows_of width sender numbers = map (row_of width sender numbers) (range_with_len 0 (length numbers / width))

-- those of all letters
abbrev pub rows_in : ℕ → List (List ℤ) → List Row
rows_in width taken = flat_map (λ sender. rows_of width sender (list_at taken sender)) (range_with_len 0 (length taken))

-- the number at one place of a row, and of each row
abbrev pub value_in : List (List ℤ) → ℕ → Row → ℤ
value_in taken place r = number_at (list_at taken r.sender) (r.start + place)

abbrev pub column_of : List (List ℤ) → List Row → ℕ → List ℤ
column_of taken rows place = map (value_in taken place) rows
