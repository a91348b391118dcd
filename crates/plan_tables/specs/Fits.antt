-- When a kept inspection fits an execution of a FORALL on a node. `owners` has the owners of each decomposition's elements, `store` the
-- values before the loop, and `slots` tells for a decomposition and an element of it the slot of the element's ghost on the node.
use Rattle.std.specs.Prelude.{◌≡◌, ◌≢◌, ◌<◌, ℕ, ℤ, pos, List, length, Option, Some}
use Rattle.std.specs.List.{AllZip}
use Rattle.fd_words.specs.Lists.{list_at}
use Rattle.chaos_dist.specs.Counting.{below}
use Rattle.fd_program.specs.Cells.{Cell}
use Rattle.fd_program.specs.Homes.{owner_met, executed_by, needed_of, given_of}
use Rattle.fd_program.specs.Met.{kept_uses}
use Rattle.fd_program.specs.Places.{decomposition_of, stands_at, local_for}
use Rattle.fd_program.specs.declared.loop_facts.LoopFacts.{LoopFacts}
use Rattle.fd_program.specs.declared.loop_use.Use.{Use}
use Rattle.chaos_sched.specs.declared.item.Item.{Item}
use Rattle.chaos_sched.specs.declared.local_ref.LocalRef.{LocalRef}
use Rattle.chaos_sched.specs.declared.local_ref.LocalRef.TheVariants.{Here, Ghost}
use Rattle.chaos_sched.specs.declared.prepared.Prepared.{Prepared}

-- two elements of a decomposition have no slot in common
abbrev pub HaveOwnSlots : (ℕ → ℕ → Option ℕ) → Type 0
HaveOwnSlots slots = (d e g slot : ℕ) → slots d e ≡ Some slot → slots d g ≡ Some slot → e ≡ g

-- each array has a ghost for each slot of its decomposition
abbrev pub HasRoom : LoopFacts → (ℕ → ℕ → Option ℕ) → List (List ℤ) → Type 0
HasRoom f slots ghosts = (array e slot : ℕ) → array < length f.arrays → slots (decomposition_of f.arrays array) e ≡ Some slot
    → slot < length (list_at ghosts array)

-- the slot of element z of an array
abbrev pub slot_for : LoopFacts → (ℕ → ℕ → Option ℕ) → ℕ → ℤ → Option ℕ
slot_for f slots array z = slots (decomposition_of f.arrays array) (stands_at f.arrays array z)

-- a local reference stands for the element that a reference reaches
abbrev pub StandsFor : LoopFacts → List (List ℕ) → (ℕ → ℕ → Option ℕ) → ℕ → Use → LocalRef → Type 0
StandsFor f owners slots p u (Here local) = (owner_met f owners u ≡ p) × (local ≡ local_for f.arrays owners u.array u.subscript)
StandsFor f owners slots p u (Ghost slot) = (owner_met f owners u ≢ p) × (slot_for f slots u.array u.subscript ≡ Some slot)

-- an item for an element: its array, the array's own element, and the local address on its owner
pub record IsItem (f : LoopFacts) (owners : List (List ℕ)) (x : Cell) (i : Item) : Type 0 where
  pub array : i.array ≡ x.array
  pub element : i.element ≡ x.element
  pub local : i.local ≡ local_for f.arrays owners x.array (pos x.element)

-- one for an element that stands here
abbrev pub IsOwn : LoopFacts → List (List ℕ) → Cell → Item → Type 0
IsOwn f owners x i = IsItem f owners x i × (i.slot ≡ 0)

-- one for an element of another node, in its slot
abbrev pub IsOther : LoopFacts → List (List ℕ) → (ℕ → ℕ → Option ℕ) → Cell → Item → Type 0
IsOther f owners slots x i = IsItem f owners x i × (slot_for f slots x.array (pos x.element) ≡ Some i.slot)

-- one list per node, with an item for each element
abbrev pub AreItems : ℕ → (Cell → Item → Type 0) → (ℕ → List Cell) → List (List Item) → Type 0
AreItems nodes R cells lists = AllZip (λ q items. AllZip R (cells q) items) (below nodes) lists

pub record Fits (f : LoopFacts) (owners : List (List ℕ)) (store : List (List ℤ)) (slots : ℕ → ℕ → Option ℕ) (p : ℕ)
    (kept : Prepared) : Type 0 where
  pub iterations : kept.iterations ≡ executed_by f owners store p
  pub references : AllZip (StandsFor f owners slots p) (kept_uses f store kept.iterations) kept.references
  pub gather_send : AreItems f.nodes (IsOwn f owners) (λ q. needed_of f owners store q p) kept.schedule.gather_send
  pub gather_fetch : AreItems f.nodes (IsOther f owners slots) (λ q. needed_of f owners store p q) kept.schedule.gather_fetch
  pub scatter_send : AreItems f.nodes (IsOther f owners slots) (λ q. given_of f owners store p q) kept.schedule.scatter_send
  pub scatter_take : AreItems f.nodes (IsOwn f owners) (λ q. given_of f owners store q p) kept.schedule.scatter_take
