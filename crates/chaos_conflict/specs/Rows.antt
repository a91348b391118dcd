-- Rows of claims: in order, as numbers, and read back.
use Rattle.std.specs.Prelude.{◌≡◌, ℕ, ◌<◌, ◌≤◌, ◌^◌, nat_lt, ℤ, pos, int_lt, Bool, ◌&&◌, ◌||◌, ◌==◌, if◌then◌else◌, List, [], ◌∷◌, ◌++◌}
use Rattle.std.specs.Prelude.{Option, Some, None, map, filter, fold}
use Rattle.std.specs.List.{AllByRecursion, flat_map}
use Rattle.std.specs.Option.{option_to_list}
use Rattle.std.specs.Int.{w64, cast_signed}
use Rattle.chaos_conflict.specs.declared.claim.Claim.{Claim}
use Rattle.chaos_conflict.specs.declared.row.Row.{Row}

abbrev pub row_of : Claim → Row
row_of c = record { reference = c.reference; element = c.element; iteration = c.iteration }

-- ---- in order

-- by reference, element and iteration
abbrev pub is_before : Row → Row → Bool
is_before x y =
    nat_lt x.reference y.reference
    || (x.reference == y.reference && (nat_lt x.element y.element || (x.element == y.element && int_lt x.iteration y.iteration)))

-- with one more in its place, unless it is there
abbrev pub with_row : List Row → Row → List Row
with_row [] x = x ∷ []
with_row (y ∷ rows) x = if is_before x y then x ∷ y ∷ rows else y ∷ (if is_before y x then with_row rows x else rows)

-- ascending, each once
abbrev pub in_order : List Row → List Row
in_order rows = fold with_row [] rows

-- ---- as numbers

-- reference, element and iteration
abbrev pub claim_row : Row → List ℤ
claim_row r = pos r.reference ∷ cast_signed w64 r.element ∷ r.iteration ∷ []

-- what is claimed of a node's elements
abbrev pub claims_to : ℕ → List Claim → List ℤ
claims_to owner claims = flat_map claim_row (in_order (map row_of (filter (λ c. c.owner == owner) claims)))

-- ---- read back

-- the row with these numbers, none where one is out of range
abbrev pub row_at : ℤ → ℤ → ℤ → Option Row
row_at (pos reference) (pos element) iteration =
    if nat_lt 0 reference && (nat_lt reference (2 ^ 32) && nat_lt 0 element)
    then Some (record { reference = reference; element = element; iteration = iteration }) else None
row_at _ _ _ = None

-- the first row, none where it is faulty or incomplete
abbrev pub row_in : List ℤ → Option Row
row_in (reference ∷ element ∷ iteration ∷ numbers) = row_at reference element iteration
row_in _ = None

-- the rows, passing over faulty ones
abbrev pub rows_of : List ℤ → List Row
rows_of (reference ∷ element ∷ iteration ∷ numbers) = option_to_list (row_at reference element iteration) ++ rows_of numbers
rows_of _ = []

-- a reference and an element that a row can name
abbrev pub IsNamed : Row → Type 0
IsNamed r = (1 ≤ r.reference) × (r.reference < 2 ^ 32) × (1 ≤ r.element) × (r.element < 2 ^ 63)

-- rows are what is read of their numbers
abbrev pub RowsAreRead : Type 0
RowsAreRead = (rows : List Row) → AllByRecursion IsNamed rows → rows_of (flat_map claim_row rows) ≡ rows
