-- Elements of arrays, ascending by array and element.
use Rattle.std.specs.Prelude.{ℕ, Bool, ◌==◌, ◌&&◌, ◌||◌, nat_lt, if◌then◌else◌, List, [], ◌∷◌, fold}

-- an element of an array
pub record Cell : Type 0 where
  pub array : ℕ
  pub element : ℕ

abbrev pub is_before : Cell → Cell → Bool
is_before x y = nat_lt x.array y.array || (x.array == y.array && nat_lt x.element y.element)

-- with one more in its place, unless it is there
abbrev pub with_cell : List Cell → Cell → List Cell
with_cell [] x = x ∷ []
with_cell (y ∷ ys) x = if is_before x y then x ∷ y ∷ ys else y ∷ (if is_before y x then with_cell ys x else ys)

-- ascending, each once
abbrev pub ascending : List Cell → List Cell
ascending cells = fold with_cell [] cells
