-- The iterations of a section that a node executes, and what the other nodes ask of it.
use Rattle.std.specs.Prelude.{ℕ, ◌^◌, ◌<◌, ◌≤◌, ℤ, pos, ◌+ℤ◌, ◌≤ℤ◌, ◌<ℤ◌, ◌==◌, if◌then◌else◌, List, [], ◌∷◌, All, length, map, filter}
use Rattle.std.specs.List.{flat_map}
use Rattle.fd_words.specs.declared.place.Role.{Role}
use Rattle.fd_words.specs.declared.place.Role.TheVariants.{Read, Target}
use Rattle.chaos_dist.specs.Homes.{natural, most_of}
use Rattle.chaos_dist.specs.Layout.{owner_of, local_of, given_size}
use Rattle.chaos_sched.specs.declared.need.Need.{Need}
use Rattle.fd_program.specs.Loops.{range_of}
use Rattle.chaos_section.specs.declared.section.SectionHomes.{SectionHomes}
use Rattle.chaos_section.specs.declared.section.SectionHomes.TheVariants.{OwnerOf, Most}
use Rattle.chaos_section.specs.declared.section.SectionLoop.{SectionLoop}
use Rattle.chaos_section.specs.declared.section.SectionReference.{SectionReference}

-- ---- where references stand

abbrev pub shift_of : SectionReference → ℤ
shift_of r = r.add +ℤ r.offset

-- the element of its decomposition that a reference reaches at iteration i
abbrev pub stands : SectionReference → ℤ → ℕ
stands r i = natural (i +ℤ shift_of r)

-- its owner among so many nodes, and its local address there
abbrev pub owner_at : ℕ → SectionReference → ℤ → ℕ
owner_at nodes r i = owner_of r.shape r.extent nodes (stands r i)

abbrev pub local_at : ℕ → SectionReference → ℤ → ℕ
local_at nodes r i = local_of r.shape r.extent nodes (stands r i)

-- ---- iterations

abbrev pub home_by : SectionHomes → ℕ → List SectionReference → ℤ → ℕ
home_by (OwnerOf r) nodes references i = owner_at nodes r i
home_by Most nodes references i = most_of nodes (map (λ r. owner_at nodes r i) references)

-- the node that executes an iteration
abbrev pub home_on : SectionLoop → ℤ → ℕ
home_on l i = home_by l.homes l.nodes l.references i

abbrev pub range_on : SectionLoop → List ℤ
range_on l = range_of l.low l.high

-- the iterations that a node executes
abbrev pub iterations_on : SectionLoop → ℕ → List ℤ
iterations_on l me = filter (λ i. home_on l i == me) (range_on l)

-- the iterations at which a reference reaches an element of a node
abbrev pub own_on : SectionLoop → ℕ → SectionReference → List ℤ
own_on l me r = filter (λ i. owner_at l.nodes r i == me) (range_on l)

-- ---- what is asked

abbrev pub role_of : SectionReference → Role
role_of r = if r.target then Target else Read

-- what a reference reaches at iteration i, as the iteration's home asks it of the owner: with the home in the owner's place
abbrev pub need_at : SectionLoop → SectionReference → ℤ → Need
need_at l r i = record {
  role = role_of r;
  array = r.array;
  element = natural (i +ℤ r.add);
  place = record { owner = home_on l i; local = local_at l.nodes r i };
  slot = 0;
}

-- what other nodes ask of a node by a reference: at an iteration of another home, and at all
abbrev pub asked_at : SectionLoop → ℕ → SectionReference → ℤ → List Need
asked_at l me r i = if home_on l i == me then [] else need_at l r i ∷ []

abbrev pub asked_by : SectionLoop → ℕ → SectionReference → List Need
asked_by l me r = flat_map (asked_at l me r) (own_on l me r)

-- what other nodes need of a node
abbrev pub needs_of : SectionLoop → ℕ → List Need
needs_of l me = flat_map (asked_by l me) l.references

-- ---- what a section is

-- a reference reaches an element of its decomposition, and one of its array, at iteration i
pub record IsReaching (r : SectionReference) (i : ℤ) : Type 0 where
  pub first : pos 1 ≤ℤ (i +ℤ shift_of r)
  pub last : (i +ℤ shift_of r) ≤ℤ pos r.extent
  pub named : pos 1 ≤ℤ (i +ℤ r.add)
  pub small : (i +ℤ r.add) <ℤ pos (2 ^ 63)

-- a reference of a loop over low to high
pub record IsSectionReference (low high : ℤ) (r : SectionReference) : Type 0 where
  pub reaching : (i : ℤ) → low ≤ℤ i → i ≤ℤ high → IsReaching r i
  pub extent : r.extent < 2 ^ 63
  pub size : 1 ≤ given_size r.shape

abbrev pub TellsHomes : ℤ → ℤ → List SectionReference → SectionHomes → Type 0
TellsHomes low high references (OwnerOf r) = IsSectionReference low high r
TellsHomes low high references Most = 1 ≤ length references

pub record IsSection (l : SectionLoop) : Type 0 where
  pub some : 1 ≤ l.nodes
  pub few : l.nodes ≤ 16
  pub homes : TellsHomes l.low l.high l.references l.homes
  pub references : All (IsSectionReference l.low l.high) l.references
