-- Where elements of arrays stand. `owners` has for each decomposition the owners of its elements 1, 2 and so on.
use Rattle.std.specs.Prelude.{ℕ, ℤ, pos, ◌+ℤ◌, ◌-ℤ◌, if◌then◌else◌, List, length, map}
use Rattle.fd_words.specs.Lists.{list_at}
use Rattle.chaos_dist.specs.Counting.{below}
use Rattle.chaos_dist.specs.Homes.{natural}
use Rattle.chaos_dist.specs.Owners.{owner_in, local_in, elements_on}
use Rattle.fd_program.specs.Stores.{array_at, is_within, element}
use Rattle.fd_program.specs.declared.array.ArrayFacts.{ArrayFacts}

abbrev pub decomposition_of : List ArrayFacts → ℕ → ℕ
decomposition_of arrays array = (array_at arrays array).decomposition

-- the element of the decomposition where element z of the array stands
abbrev pub stands_at : List ArrayFacts → ℕ → ℤ → ℕ
stands_at arrays array z = natural (z +ℤ (array_at arrays array).offset)

-- the node that owns element z of an array
abbrev pub owner_for : List ArrayFacts → List (List ℕ) → ℕ → ℤ → ℕ
owner_for arrays owners array z = owner_in (list_at owners (decomposition_of arrays array)) (stands_at arrays array z)

-- its local address there, from 0
abbrev pub local_for : List ArrayFacts → List (List ℕ) → ℕ → ℤ → ℕ
local_for arrays owners array z = local_in (list_at owners (decomposition_of arrays array)) (stands_at arrays array z)

-- what an array's local part holds for element e of the decomposition: 0 where the array has no element there
abbrev pub value_on : List ArrayFacts → List (List ℤ) → ℕ → ℕ → ℤ
value_on arrays store array e =
    let z = pos e -ℤ (array_at arrays array).offset in
    if is_within arrays array z then element store array z else pos 0

-- the local part of an array on a node
abbrev pub part_of : List ArrayFacts → List (List ℕ) → List (List ℤ) → ℕ → ℕ → List ℤ
part_of arrays owners store node array = map (value_on arrays store array) (elements_on (list_at owners (decomposition_of arrays array))
    node)

-- the local parts of all arrays on a node
abbrev pub parts_of : List ArrayFacts → List (List ℕ) → List (List ℤ) → ℕ → List (List ℤ)
parts_of arrays owners store node = map (part_of arrays owners store node) (below (length arrays))
