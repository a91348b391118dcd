-- Whether letters and items are as the executor's calls want them.
use Rattle.std.specs.Prelude.{◌*◌, ◌^◌, ◌==◌, nat_lt, ◌&&◌, ℤ, Bool, true, false, List, [], ◌∷◌, length}
use Rattle.std.specs.List.{list_all}
use Rattle.chaos_sched.specs.declared.item.Item.{Item}

-- each element can stand in a letter
abbrev pub are_small : List (List Item) → Bool
are_small lists = list_all (λ items. list_all (λ (i : Item). nat_lt i.element (2 ^ 63)) items) lists

-- from each node three numbers for each of its items
abbrev pub have_rows : List (List ℤ) → List (List Item) → Bool
have_rows [] [] = true
have_rows [] (items ∷ lists) = false
have_rows (rows ∷ taken) [] = false
have_rows (rows ∷ taken) (items ∷ lists) = (length rows == 3 * length items) && have_rows taken lists
