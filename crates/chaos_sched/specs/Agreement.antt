-- What the schedules of two nodes say of one another.
use Rattle.std.specs.Prelude.{◌≡◌, ℕ, ◌<◌, ◌≤◌, ◌^◌, ℤ, List, All, map}
use Rattle.std.specs.List.Sorted.{IsStrictlySortedBy}
use Rattle.std.specs.declared.cmp.Ordering.{Ordering}
use Rattle.std.specs.Ordering.{nat_cmp, ordering_then}
use Rattle.fd_words.specs.Lists.{list_at}
use Rattle.chaos_sched.specs.declared.item.Item.{Item}
use Rattle.chaos_sched.specs.declared.need.Need.{Need}
use Rattle.chaos_sched.specs.Scheduled.{asks_for}
use Rattle.chaos_sched.specs.Schedules.{schedule_of}

-- by array and element
abbrev pub element_cmp : Item → Item → Ordering
element_cmp a b = ordering_then (nat_cmp a.array b.array) (nat_cmp a.element b.element)

-- an item as the element's owner has it, with no slot
abbrev pub on_owner : Item → Item
on_owner i = record i { slot = 0 }

-- an array and an element that a row can name
abbrev pub IsNamed : Need → Type 0
IsNamed n = (n.array < 2 ^ 32) × (1 ≤ n.element)

-- Where node q took from node p the rows that p asks of q, q sends at a gather just the items that p fetches from it,
-- and takes at a scatter just those that p sends to it.
abbrev pub SidesAgree : Type 0
SidesAgree = (nodes p q : ℕ) (needs_of_p needs_of_q : List Need) (taken_by_p taken_by_q : List (List ℤ)) → p < nodes → q < nodes
    → All IsNamed needs_of_p → list_at taken_by_q p ≡ list_at (asks_for nodes needs_of_p) q
    → (list_at (schedule_of nodes needs_of_q taken_by_q).gather_send p ≡ map on_owner
    (list_at (schedule_of nodes needs_of_p taken_by_p).gather_fetch q))
    × (list_at (schedule_of nodes needs_of_q taken_by_q).scatter_take p ≡ map on_owner
    (list_at (schedule_of nodes needs_of_p taken_by_p).scatter_send q))

-- each list of a schedule ascends by array and element, with each element once
abbrev pub ListsAscend : Type 0
ListsAscend = (nodes q : ℕ) (needs : List Need) (asks : List (List ℤ)) → q < nodes
    → IsStrictlySortedBy element_cmp (list_at (schedule_of nodes needs asks).gather_send q)
    × IsStrictlySortedBy element_cmp (list_at (schedule_of nodes needs asks).gather_fetch q)
    × IsStrictlySortedBy element_cmp (list_at (schedule_of nodes needs asks).scatter_send q)
    × IsStrictlySortedBy element_cmp (list_at (schedule_of nodes needs asks).scatter_take q)
