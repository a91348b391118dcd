-- The regular distributions: which node holds an element, and where.
use Rattle.std.specs.Prelude.{ℕ, ◌+◌, ◌-◌, ◌*◌, ◌/◌, ◌%◌, ◌<◌, ◌==◌, List, filter, slice_get, unwrap_or}
use Rattle.chaos_dist.specs.Counting.{count_up_to, up_to}
use Rattle.chaos_dist.specs.declared.shape.Shape.{Shape}
use Rattle.chaos_dist.specs.declared.shape.Shape.TheVariants.{Block, Cyclic, BlockCyclic}

-- a, divided by b and rounded up
abbrev pub divided_up : ℕ → ℕ → ℕ
divided_up a b = (a + b - 1) / b

-- the node of element g
abbrev pub owner_of : Shape → ℕ → ℕ → ℕ → ℕ
owner_of Block extent nodes g = (g - 1) / divided_up extent nodes
owner_of Cyclic extent nodes g = (g - 1) % nodes
owner_of (BlockCyclic b) extent nodes g = (g - 1) / b % nodes

-- how many of the elements 1 to g are on a node
abbrev pub count_on : Shape → ℕ → ℕ → ℕ → ℕ → ℕ
count_on shape extent nodes node g = count_up_to (λ h. owner_of shape extent nodes h == node) g

-- the number of elements on a node
abbrev pub length_of : Shape → ℕ → ℕ → ℕ → ℕ
length_of shape extent nodes node = count_on shape extent nodes node extent

-- the number of smaller elements on the same node
abbrev pub local_of : Shape → ℕ → ℕ → ℕ → ℕ
local_of shape extent nodes g = count_on shape extent nodes (owner_of shape extent nodes g) (g - 1)

-- the elements on a node, ascending
abbrev pub elements_of : Shape → ℕ → ℕ → ℕ → List ℕ
elements_of shape extent nodes node = filter (λ g. owner_of shape extent nodes g == node) (up_to extent)

-- the element at a local address of a node
abbrev pub element_of : Shape → ℕ → ℕ → ℕ → ℕ → ℕ
element_of shape extent nodes node local = unwrap_or (slice_get (elements_of shape extent nodes node) local) 0

-- the b of CYCLIC(b), and 1 where there is none
abbrev pub given_size : Shape → ℕ
given_size Block = 1
given_size Cyclic = 1
given_size (BlockCyclic b) = b

-- so many elements are dealt to a node at a time
abbrev pub width_of : Shape → ℕ → ℕ → ℕ
width_of Block extent nodes = divided_up extent nodes
width_of Cyclic extent nodes = 1
width_of (BlockCyclic b) extent nodes = b

-- what is computed on the way to the element at a local address is below a bound
pub record StaysBelow (w n node l top : ℕ) : Type 0 where
  pub rounds : l / w * n < top
  pub runs : l / w * n + node < top
  pub before : (l / w * n + node) * w < top
  pub element : (l / w * n + node) * w + l % w < top
  pub from_one : (l / w * n + node) * w + l % w + 1 < top
