-- Values by place, where a table has the number of each place that has come.
use Rattle.std.specs.Prelude.{◌≡◌, ◌≤◌, ◌⊎◌, ℕ, nat_lt, ℤ, pos, if◌then◌else◌, List, [], ◌∷◌, length, slice_get, Option, Some, None}

-- place and value of each row, one after another; a last place without a value is no row
abbrev pub rows_at : List ℤ → List (ℤ × ℤ)
rows_at (place ∷ value ∷ numbers) = (place, value) ∷ rows_at numbers
rows_at _ = []

abbrev pub places_at : List ℤ → List ℤ
places_at (place ∷ value ∷ numbers) = place ∷ places_at numbers
places_at _ = []

-- what the table has where a place has no number
abbrev pub no_number : ℕ
no_number = 4294967295

-- a number below a count
abbrev pub counted : ℕ → Option ℕ → Option ℕ
counted count None = None
counted count (Some number) = if nat_lt number count then Some number else None

-- the table has the number of each of these places, and no other number
pub record IsTable (table : List ℕ) (places : List ℤ) : Type 0 where
  pub found : (number place : ℕ) → slice_get places number ≡ Some (pos place) → slice_get table place ≡ Some number
  pub has : (place number : ℕ) → slice_get table place ≡ Some number → (number ≡ no_number) ⊎ (slice_get places number ≡ Some (pos place))

-- the table has the numbers of these rows
pub record IsNumbered (table : List ℕ) (rows : List ℤ) : Type 0 where
  pub known : IsTable table (places_at rows)
  pub few : length (places_at rows) ≤ no_number

-- a table with places behind it that have no number
pub record IsGrown (table grown : List ℕ) : Type 0 where
  pub keeps : (place number : ℕ) → slice_get table place ≡ Some number → slice_get grown place ≡ Some number
  pub adds_none : (place number : ℕ) → slice_get grown place ≡ Some number → (number ≡ no_number) ⊎ (slice_get table place ≡ Some number)

-- the place is none of these
abbrev pub IsNewIn : List ℤ → ℕ → Type 0
IsNewIn places place = (number : ℕ) → slice_get places number ≡ Some (pos place) → ⊥
