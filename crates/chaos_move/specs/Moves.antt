-- What letters hold, and what their rows do where they are taken.
use Rattle.std.specs.Prelude.{ℕ, ℤ, pos, Bool, ◌&&◌, List, [], ◌∷◌, drop, Option, Some, None, unwrap_or, slice_get, slice_set}
use Rattle.std.specs.Prelude.{if◌then◌else◌}
use Rattle.std.specs.List.{flat_map}
use Rattle.std.specs.Ordering.{int_eq}
use Rattle.fd_words.specs.Combining.{combined}
use Rattle.fd_words.specs.Lists.{list_at}
use Rattle.fd_words.specs.declared.combine.Combine.{Combine}
use Rattle.chaos_sched.specs.declared.item.Item.{Item}

-- the number at a place, 0 outside
abbrev pub number_at : List ℤ → ℕ → ℤ
number_at numbers at = unwrap_or (slice_get numbers at) (pos 0)

-- the number at a place of one of the lists, 0 outside
abbrev pub value_at : List (List ℤ) → ℕ → ℕ → ℤ
value_at lists list at = number_at (list_at lists list) at

-- a row of a Gather or a Scatter letter
abbrev pub triple : Item → ℤ → List ℤ
triple i value = pos i.array ∷ pos i.element ∷ value ∷ []

-- where an item's value stands in a list: at its slot, or at its local address
abbrev pub address_of : Bool → Item → ℕ
address_of by_slot i = if by_slot then i.slot else i.local

-- a row for each item, with its value in these lists
abbrev pub packed_by : Bool → List (List ℤ) → List Item → List ℤ
packed_by by_slot lists items = flat_map (λ i. triple i (value_at lists i.array (address_of by_slot i))) items

-- what is gathered for the items, from this node's pieces
abbrev pub packed : List (List ℤ) → List Item → List ℤ
packed pieces items = flat_map (λ i. triple i (value_at pieces i.array i.local)) items

-- what is scattered to the items, from what this node has to give by slot
abbrev pub packed_combined : List (List ℤ) → List Item → List ℤ
packed_combined pending items = flat_map (λ i. triple i (value_at pending i.array i.slot)) items

-- ---- letters that are taken

-- the value of the first row, where it names the item's element
abbrev pub row_in : Item → List ℤ → Option ℤ
row_in i (array ∷ element ∷ value ∷ rows) = if int_eq array (pos i.array) && int_eq element (pos i.element) then Some value else None
row_in i _ = None

-- another number at a place of one of the lists, nothing outside
abbrev pub put_at : List (List ℤ) → ℕ → ℕ → ℤ → List (List ℤ)
put_at lists list at value = slice_set lists list (slice_set (list_at lists list) at value)

-- the value in the item's slot
abbrev pub kept : Item → Option ℤ → List (List ℤ) → List (List ℤ)
kept i None ghosts = ghosts
kept i (Some value) ghosts = put_at ghosts i.array i.slot value

-- each row by its item
abbrev pub unpacked : List ℤ → List Item → List (List ℤ) → List (List ℤ)
unpacked rows [] ghosts = ghosts
unpacked rows (i ∷ items) ghosts = unpacked (drop 3 rows) items (kept i (row_in i rows) ghosts)

-- the operator that reduces into an array, none where it isn't reduced
abbrev pub operator_at : List (Option Combine) → ℕ → Option Combine
operator_at operators array = unwrap_or (slice_get operators array) None

-- an element's value after a value is assigned, or combined into the old one
abbrev pub changed : Option Combine → ℤ → ℤ → ℤ
changed None old value = value
changed (Some operator) old value = combined operator old value

-- the value assigned to the item's element or combined into it
abbrev pub combined_into : List (Option Combine) → Item → Option ℤ → List (List ℤ) → List (List ℤ)
combined_into operators i None pieces = pieces
combined_into operators i (Some value) pieces =
    put_at pieces i.array i.local (changed (operator_at operators i.array) (value_at pieces i.array i.local) value)

-- each row by its item
abbrev pub applied : List (Option Combine) → List ℤ → List Item → List (List ℤ) → List (List ℤ)
applied operators rows [] pieces = pieces
applied operators rows (i ∷ items) pieces = applied operators (drop 3 rows) items (combined_into operators i (row_in i rows) pieces)
