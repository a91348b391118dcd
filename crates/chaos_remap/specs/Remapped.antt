-- The new local parts of a node.
use Rattle.std.specs.Prelude.{ℕ, ◌-◌, ℤ, List, map}
use Rattle.std.specs.List.{range_with_len}
use Rattle.list_laws.specs.Order.{ascending}
use Rattle.chaos_remap.specs.declared.rows.Row.{Row}
use Rattle.chaos_remap.specs.declared.place.Remapped.{Remapped}
use Rattle.chaos_remap.specs.Rows.{row_cmp, rows_in, column_of}

-- all rows in ascending order of element
unfoldable pub sorted_rows : ℕ → List (List ℤ) → List Row
sorted_rows width taken = ascending row_cmp (rows_in width taken)

abbrev pub remapped : ℕ → List (List ℤ) → Remapped
remapped width taken = record {
  elements = column_of taken (sorted_rows width taken) 0;
  pieces = map (column_of taken (sorted_rows width taken)) (range_with_len 1 (width - 1));
}
