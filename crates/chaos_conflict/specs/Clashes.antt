-- Two rows of one element by different iterations, and the least two.
use Rattle.std.specs.Prelude.{◌≡◌, ℕ, nat_lt, ℤ, int_lt, ◌<ℤ◌, Bool, false, ◌&&◌, ◌||◌, ◌==◌, ◌⊎◌, if◌then◌else◌, List, [], ◌∷◌}
use Rattle.std.specs.Prelude.{Option, Some, None}
use Rattle.std.specs.Ordering.{int_eq}
use Rattle.chaos_conflict.specs.declared.conflict.Conflict.{Conflict}
use Rattle.chaos_conflict.specs.declared.row.Row.{Row}

-- ---- which of two is less

-- of two conflicts of the same iterations: by reference and element
abbrev pub is_less_at : Conflict → Conflict → Bool
is_less_at a b = nat_lt a.reference b.reference || (a.reference == b.reference && nat_lt a.element b.element)

-- by the first iteration, the second, the reference and the element
abbrev pub is_less : Conflict → Conflict → Bool
is_less a b =
    int_lt a.first b.first
    || (int_eq a.first b.first && (int_lt a.second b.second || (int_eq a.second b.second && is_less_at a b)))

-- the lesser of two votes, the first where neither is less
abbrev pub lesser : Option Conflict → Option Conflict → Option Conflict
lesser None w = w
lesser (Some a) None = Some a
lesser (Some a) (Some b) = if is_less b a then Some b else Some a

-- the least of the votes
abbrev pub least_clash_of : List (Option Conflict) → Option Conflict
least_clash_of [] = None
least_clash_of (v ∷ vs) = lesser v (least_clash_of vs)

-- ---- the least clash of rows

-- x is an element
abbrev pub Among : {A : Type 0} → A → List A → Type 0
Among x [] = ⊥
Among x (y ∷ ys) = (x ≡ y) ⊎ Among x ys

abbrev pub row_with : ℕ → ℕ → ℤ → Row
row_with reference element iteration = record { reference = reference; element = element; iteration = iteration }

-- both iterations have a row of the element
abbrev pub IsClash : List Row → Conflict → Type 0
IsClash rows c =
    (c.first <ℤ c.second) × Among (row_with c.reference c.element c.first) rows × Among (row_with c.reference c.element c.second) rows

-- none where rows of one reference and one element have one iteration; else a clash, and none is less
abbrev pub IsLeastClash : List Row → Option Conflict → Type 0
IsLeastClash rows None =
    (x y : Row) → Among x rows → Among y rows → x.reference ≡ y.reference → x.element ≡ y.element → x.iteration ≡ y.iteration
IsLeastClash rows (Some c) = IsClash rows c × ((d : Conflict) → IsClash rows d → is_less d c ≡ false)

-- ---- as it is found

-- the clash of a row with a later one
abbrev pub clash : Row → Row → Option Conflict
clash x y =
    if x.reference == y.reference && (x.element == y.element && int_lt x.iteration y.iteration)
    then Some (record { first = x.iteration; second = y.iteration; reference = x.reference; element = x.element }) else None

-- the least clash of two rows side by side
abbrev pub side_by_side : List Row → Option Conflict
side_by_side [] = None
side_by_side (x ∷ []) = None
side_by_side (x ∷ y ∷ rows) = lesser (clash x y) (side_by_side (y ∷ rows))
