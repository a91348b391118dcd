-- States behind a choice that one token makes.
use Rattle.std.specs.Prelude.{Bool, true, false, List, ◌∷◌, [], ◌++◌}
use Rattle.fd_grammar.specs.Machine.{State, Item, Value, mark_of, wanted, InItem, MoreItems}

-- behind the items of a list, with a comma or not
abbrev pub BehindItems : Bool → (i : Item) → List (Value i) → (List (Value i) → State) → State
BehindItems true i xs k = InItem i (λ x. MoreItems i (xs ++ x ∷ []) k)
BehindItems false i xs k = wanted (mark_of i) (k xs)
