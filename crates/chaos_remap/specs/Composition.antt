-- Remapping over all nodes, between any two layouts, each given by the owners of its elements.
use Rattle.std.specs.Prelude.{◌≡◌, ℕ, suc, ◌<◌, ℤ, pos, List, All, length, map}
use Rattle.fd_words.specs.Lists.{list_at}
use Rattle.fd_words.specs.declared.place.Place.{Place}
use Rattle.chaos_dist.specs.Counting.{below}
use Rattle.chaos_dist.specs.Owners.{owner_in, local_in, elements_on}
use Rattle.chaos_remap.specs.Remapping.{planned, packed_rows}
use Rattle.chaos_remap.specs.Remapped.{remapped}

-- the elements on a node, as numbers
abbrev pub numbers_on : List ℕ → ℕ → List ℤ
numbers_on owners node = map pos (elements_on owners node)

-- An array is given by its value at each element of the decomposition, 0 where no element of the array stands.
-- The local parts of arrays on a node:
abbrev pub parts_on : List (ℕ → ℤ) → List ℕ → ℕ → List (List ℤ)
parts_on arrays owners node = map (λ value. map value (elements_on owners node)) arrays

-- the new place of each element that a node held
abbrev pub new_places : List ℕ → List ℕ → ℕ → List Place
new_places old new node = map (λ g. record { owner = owner_in new g; local = local_in new g }) (elements_on old node)

-- what a node plans and packs for another, its letter or what it keeps itself
abbrev pub letter_to : ℕ → List (ℕ → ℤ) → List ℕ → List ℕ → ℕ → ℕ → List ℤ
letter_to nodes arrays old new receiver sender =
    packed_rows (numbers_on old sender) (parts_on arrays old sender) (list_at (planned nodes (new_places old new sender)) receiver)

-- what a node takes, one list per node
abbrev pub taken_by : ℕ → List (ℕ → ℤ) → List ℕ → List ℕ → ℕ → List (List ℤ)
taken_by nodes arrays old new receiver = map (letter_to nodes arrays old new receiver) (below nodes)

-- Where all nodes plan, pack, send and place, a node has the new layout's elements and the local parts of the same arrays.
abbrev pub ArraysStay : Type 0
ArraysStay = (nodes : ℕ) (arrays : List (ℕ → ℤ)) (old new : List ℕ) (node : ℕ) → node < nodes → length old ≡ length new
    → All (λ owner. owner < nodes) old
    → remapped (suc (length arrays)) (taken_by nodes arrays old new node) ≡ record {
      elements = numbers_on new node;
      pieces = parts_on arrays new node;
    }
