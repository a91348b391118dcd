-- What moves between two nodes whose items agree, place by place.
use Rattle.std.specs.Prelude.{◌≡◌, ℕ, ◌<◌, ℤ, ◌&&◌, ◌==◌, if◌then◌else◌, List, length, map, fold, Option}
use Rattle.fd_words.specs.Lists.{list_at}
use Rattle.fd_words.specs.declared.combine.Combine.{Combine}
use Rattle.chaos_sched.specs.declared.item.Item.{Item}
use Rattle.chaos_sched.specs.Agreement.{on_owner}
use Rattle.chaos_move.specs.Moves.{value_at, packed, unpacked, packed_combined, operator_at, changed, applied}

-- a ghost's value after an item: the owner's, where the item has its slot
abbrev pub ghost_after : List (List ℤ) → ℕ → ℕ → ℤ → Item → ℤ
ghost_after pieces array slot value i = if (i.array == array) && (i.slot == slot) then value_at pieces i.array i.local else value

-- an element's value after an item: assigned or combined, where the item is the element's
abbrev pub element_after : List (Option Combine) → List (List ℤ) → ℕ → ℕ → ℤ → Item → ℤ
element_after operators pending array local value i =
    if (i.array == array) && (i.local == local) then changed (operator_at operators i.array) value (value_at pending i.array i.slot)
    else value

-- The owner packs its pieces, and the other node unpacks into its ghosts.
abbrev pub GathersArrive : Type 0
GathersArrive = (pieces ghosts : List (List ℤ)) (items : List Item) (array slot : ℕ) → slot < length (list_at ghosts array)
    → value_at (unpacked (packed pieces (map on_owner items)) items ghosts) array slot ≡ fold (ghost_after pieces array slot)
    (value_at ghosts array slot) items

-- The other node packs what it has to give, and the owner applies it to its pieces.
abbrev pub ScattersArrive : Type 0
ScattersArrive = (operators : List (Option Combine)) (pending pieces : List (List ℤ)) (items : List Item) (array local : ℕ)
    → local < length (list_at pieces array)
    → value_at (applied operators (packed_combined pending items) (map on_owner items) pieces) array local
    ≡ fold (element_after operators pending array local) (value_at pieces array local) items
