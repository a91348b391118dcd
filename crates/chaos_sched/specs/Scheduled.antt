-- What a node asks of the others, and its schedule.
use Rattle.std.specs.Prelude.{ℕ, ◌<◌, ◌^◌, nat_lt, ℤ, pos, Bool, true, false, ◌&&◌, ◌==◌, List, [], ◌∷◌, ◌++◌, Option, Some, None, map}
use Rattle.std.specs.Prelude.{filter, if◌then◌else◌}
use Rattle.std.specs.Option.{option_to_list}
use Rattle.std.specs.List.{dedup, flat_map, range_with_len}
use Rattle.std.specs.declared.cmp.Ordering.{Ordering}
use Rattle.std.specs.Ordering.{nat_cmp, int_eq, ordering_then}
use Rattle.fd_words.specs.declared.place.Role.{Role}
use Rattle.fd_words.specs.declared.place.Role.TheVariants.{Index, Read, Target}
use Rattle.list_laws.specs.Order.{ascending}
use Rattle.chaos_sched.specs.declared.item.Item.{Item}
use Rattle.chaos_sched.specs.declared.need.Need.{Need}

-- by array, element, local address and slot
abbrev pub item_cmp : Item → Item → Ordering
item_cmp a b = ordering_then (nat_cmp a.array b.array) (ordering_then (nat_cmp a.element b.element)
    (ordering_then (nat_cmp a.local b.local) (nat_cmp a.slot b.slot)))

abbrev pub same_element : Item → Item → Bool
same_element a b = (a.array == b.array) && (a.element == b.element)

-- ascending by array and element, each element once
unfoldable pub in_order : List Item → List Item
in_order items = dedup same_element (ascending item_cmp items)

abbrev pub same_role : Role → Role → Bool
same_role Index Index = true
same_role Read Read = true
same_role Target Target = true
same_role _ _ = false

-- the item of a need
abbrev pub item_of : Need → Item
item_of n = record { array = n.array; element = n.element; local = n.place.local; slot = n.slot }

-- those needed of a node in a role, as they come and in order
abbrev pub needed_items : Role → ℕ → List Need → List Item
needed_items role owner needs = map item_of (filter (λ n. same_role n.role role && (n.place.owner == owner)) needs)

unfoldable pub needed_from : Role → ℕ → List Need → List Item
needed_from role owner needs = in_order (needed_items role owner needs)

-- an element and an address that fit signed numbers
abbrev pub IsSmall : Item → Type 0
IsSmall i = (i.element < 2 ^ 63) × (i.local < 2 ^ 63)

-- a row of an ask: 0 for a read or 1 for a target, then array, element and local address
abbrev pub ask_row : ℕ → Item → List ℤ
ask_row number i = pos number ∷ pos i.array ∷ pos i.element ∷ pos i.local ∷ []

-- what is asked of a node
unfoldable pub ask_to : ℕ → List Need → List ℤ
ask_to owner needs = flat_map (ask_row 0) (needed_from Read owner needs) ++ flat_map (ask_row 1) (needed_from Target owner needs)

abbrev pub asks_for : ℕ → List Need → List (List ℤ)
asks_for nodes needs = map (λ q. ask_to q needs) (range_with_len 0 nodes)

-- the item that array, element and local address name, none where one is out of range
abbrev pub asked_item : ℤ → ℤ → ℤ → Option Item
asked_item (pos array) (pos element) (pos local) =
    if nat_lt array (2 ^ 32) && nat_lt 0 element then Some (record { array = array; element = element; local = local; slot = 0 }) else None
asked_item _ _ _ = None

-- the item of the first row, where it begins with a number
abbrev pub item_in : ℕ → List ℤ → Option Item
item_in number (first ∷ array ∷ element ∷ local ∷ rows) = if int_eq first (pos number) then asked_item array element local else None
item_in number _ = None

-- the items of the rows that begin with a number, passing over faulty rows
abbrev pub asked_items : ℕ → List ℤ → List Item
asked_items number (first ∷ array ∷ element ∷ local ∷ rows) =
    option_to_list (if int_eq first (pos number) then asked_item array element local else None) ++ asked_items number rows
asked_items number _ = []

unfoldable pub asked_by : ℕ → List ℤ → List Item
asked_by number rows = in_order (asked_items number rows)
