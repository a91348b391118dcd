-- What a node has prepared of a loop as it asks for elements, and what it is prepared from.
use Rattle.std.specs.Prelude.{◌≡◌, ◌≤◌, length, ℕ, ℤ, not, ◌==◌, List, filter, map, Option, Some, None}
use Rattle.std.specs.List.{AllZip, flat_map}
use Rattle.chaos_dist.specs.Homes.{natural}
use Rattle.chaos_hash.specs.Stamps.{Stamps}
use Rattle.plan_tables.specs.Fits.{StandsFor, slot_for}
use Rattle.fd_program.specs.Met.{kept_uses}
use Rattle.plan_loop.specs.LoopLetters.{iteration_row}
use Rattle.inspect_enter.specs.Placed.{is_mapped}
use Rattle.fd_words.specs.declared.place.Place.{Place}
use Rattle.plan_tables.specs.Tables.{slots_entered, IsEntered}
use Rattle.inspect_uses.specs.Accepted.{IsAccepted, AreOwners}
use Rattle.inspect_uses.specs.Reached.{place_met}
use Rattle.inspect_enter.specs.declared.entering.Entering.{Entering}
use Rattle.chaos_sched.specs.declared.need.Need.{Need}
use Rattle.fd_program.specs.Homes.{owner_met, executed_by}
use Rattle.fd_program.specs.Loops.{offence_of}
use Rattle.fd_program.specs.declared.loop_facts.LoopFacts.{LoopFacts}
use Rattle.fd_program.specs.declared.loop_use.Use.{Use}

-- ---- what it is prepared from

-- the loop is one of a checked program, which has few arrays, and has no offence, and these are the owners
pub record IsSettled (f : LoopFacts) (owners : List (List ℕ)) (store : List (List ℤ)) : Type 0 where
  pub accepted : IsAccepted f
  pub few : length f.arrays ≤ 64
  pub sound : offence_of f.arrays f.site f.turn store ≡ None
  pub owned : AreOwners f owners

-- the rows are those of the iterations whose home node p is, and the places those that no formula tells, by iteration and reference
pub record AreGiven (f : LoopFacts) (owners : List (List ℕ)) (store : List (List ℤ)) (p : ℕ) (rows : List ℤ) (places : List Place) : Type
    0 where
  pub settled : IsSettled f owners store
  pub read : rows ≡ flat_map (iteration_row f store) (executed_by f owners store p)
  pub told : places ≡ map (place_met f owners) (filter (is_mapped f) (kept_uses f store (executed_by f owners store p)))

-- ---- what is prepared

-- the need of an element that a reference reaches
pub record IsNeed (f : LoopFacts) (owners : List (List ℕ)) (slots : ℕ → ℕ → Option ℕ) (u : Use) (n : Need) : Type 0 where
  pub role : n.role ≡ u.role
  pub array : n.array ≡ u.array
  pub element : n.element ≡ natural u.subscript
  pub place : n.place ≡ place_met f owners u
  pub slot : slot_for f slots u.array u.subscript ≡ Some n.slot

-- the references of p's iterations that reach elements of other nodes
abbrev pub uses_beyond : LoopFacts → List (List ℕ) → List (List ℤ) → ℕ → List Use
uses_beyond f owners store p = filter (λ u. not (owner_met f owners u == p)) (kept_uses f store (executed_by f owners store p))

-- the iterations of node p, where each of their references finds its value, what they need, and the entries for it
pub record IsEntering (f : LoopFacts) (owners : List (List ℕ)) (store : List (List ℤ)) (p : ℕ) (tables : List Stamps)
    (x : Entering) : Type 0 where
  pub iterations : x.iterations ≡ executed_by f owners store p
  pub references : AllZip (StandsFor f owners (slots_entered f tables) p) (kept_uses f store (executed_by f owners store p)) x.references
  pub needs : AllZip (IsNeed f owners (slots_entered f tables)) (uses_beyond f owners store p) x.needs
  pub entered : IsEntered f owners store p tables
