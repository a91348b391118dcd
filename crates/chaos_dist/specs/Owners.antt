-- A layout as the list of the owners of its elements 1, 2 and so on.
use Rattle.std.specs.Prelude.{ℕ, ◌-◌, ◌*◌, ◌/◌, ℤ, pos, ◌==◌, List, length, take, drop, map, slice_get, unwrap_or, filter, count_by}
use Rattle.std.specs.Prelude.{unsigned_abs}
use Rattle.std.specs.Int.{int_rem_euclid}
use Rattle.chaos_dist.specs.Counting.{up_to, below}
use Rattle.chaos_dist.specs.Layout.{owner_of, divided_up}
use Rattle.chaos_dist.specs.declared.shape.Shape.{Shape}

-- the owners under a regular shape
abbrev pub regular_owners : Shape → ℕ → ℕ → List ℕ
regular_owners shape extent nodes = map (owner_of shape extent nodes) (up_to extent)

-- the owners that a map array's values name: their remainders by the number of nodes, never negative
abbrev pub mapped_owners : ℕ → List ℤ → List ℕ
mapped_owners nodes values = map (λ v. unsigned_abs (int_rem_euclid v (pos nodes))) values

-- the node of element g
abbrev pub owner_in : List ℕ → ℕ → ℕ
owner_in owners g = unwrap_or (slice_get owners (g - 1)) 0

-- how many of the elements 1 to g are on a node
abbrev pub count_in : List ℕ → ℕ → ℕ → ℕ
count_in owners node g = count_by (λ o. o == node) (take g owners)

-- the number of elements on a node
abbrev pub length_in : List ℕ → ℕ → ℕ
length_in owners node = count_by (λ o. o == node) owners

-- the number of smaller elements on the same node
abbrev pub local_in : List ℕ → ℕ → ℕ
local_in owners g = count_in owners (owner_in owners g) (g - 1)

-- the elements on a node, ascending
abbrev pub elements_on : List ℕ → ℕ → List ℕ
elements_on owners node = filter (λ g. owner_in owners g == node) (up_to (length owners))

-- the page that covers element g, which is also the node that keeps it
abbrev pub page_of : ℕ → ℕ → ℕ → ℕ
page_of extent nodes g = (g - 1) / divided_up extent nodes

-- the owners of a page's elements
abbrev pub page_owners : ℕ → ℕ → List ℕ → List ℕ
page_owners nodes page owners =
    let width = divided_up (length owners) nodes in take width (drop (page * width) owners)

-- for each node how many elements of the page it owns
abbrev pub counts_on_page : ℕ → ℕ → List ℕ → List ℕ
counts_on_page nodes page owners = map (λ node. length_in (page_owners nodes page owners) node) (below nodes)
