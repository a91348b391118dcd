-- Lists of lists.
use Rattle.std.specs.Prelude.{ℕ, ℤ, List, [], ◌∷◌, ◌++◌, slice_get, slice_set, unwrap_or}

-- the list at a place, empty from the end on
abbrev pub list_at : {A : Type 0} → List (List A) → ℕ → List A
list_at lists at = unwrap_or (slice_get lists at) []

-- the lists with one more number at the end of one of them
abbrev pub pushed_at : {A : Type 0} → List (List A) → ℕ → A → List (List A)
pushed_at lists at value = slice_set lists at (list_at lists at ++ value ∷ [])
