-- The references of a node's iterations as they are read from rows, placed, entered and needed.
use Rattle.std.specs.Prelude.{◌≡◌, ◌≢◌, ◌<◌, ◌^◌, ℕ, true, Bool, not, ◌&&◌, ◌⊎◌, List, Option, Some, None}
use Rattle.std.specs.Int.{bit_at}
use Rattle.fd_words.specs.declared.place.Place.{Place}
use Rattle.chaos_hash.specs.Stamps.{Stamps}
use Rattle.chaos_hash.specs.declared.held.Held.{Held}
use Rattle.fd_program.specs.Met.{decomposition_met, stands_met, layout_for, is_map}
use Rattle.plan_tables.specs.Tables.{HasStamp, entry_at, stamps_of}
use Rattle.inspect_enter.specs.declared.placed.Placed.{Placed}
use Rattle.inspect_uses.specs.Reached.{place_met}
use Rattle.chaos_sched.specs.declared.local_ref.LocalRef.{LocalRef}
use Rattle.chaos_sched.specs.declared.local_ref.LocalRef.TheVariants.{Here, Ghost}
use Rattle.fd_program.specs.ListLaws.{Among}
use Rattle.fd_program.specs.Uses.{is_met}
use Rattle.fd_words.specs.Roles.{is_index}
use Rattle.fd_program.specs.declared.loop_facts.LoopFacts.{LoopFacts}
use Rattle.fd_program.specs.declared.loop_use.Use.{Use}

-- ---- references

-- a reference that a node enters: no index reference, and its array has the element
abbrev pub is_kept : LoopFacts → Use → Bool
is_kept f u = not (is_index u.role) && is_met f.arrays u

-- and its stamp is one of the loop's
pub record MayBeStamped (f : LoopFacts) (u : Use) : Type 0 where
  pub met : is_met f.arrays u ≡ true
  pub small : u.stamp < 128
  pub own : Among u.stamp (stamps_of f (decomposition_met f u))

-- ---- places

-- one in a decomposition with a map, whose place isn't told by formula
abbrev pub is_mapped : LoopFacts → Use → Bool
is_mapped f u = is_map (layout_for f u.array).form

abbrev pub placed_at : LoopFacts → List (List ℕ) → Use → Placed
placed_at f owners u = record { used = u; place = place_met f owners u }

-- the place that a formula tells, else the given one, where its local address is small
abbrev pub IsTold : Option Place → Option Place → Place → Type 0
IsTold (Some place) given result = place.local < 2 ^ 63 → result ≡ place
IsTold None (Some place) result = place.local < 2 ^ 63 → result ≡ place
IsTold None None result = Unit {0}

-- ---- entries

-- it is of another node, and reaches element e of decomposition d
pub record Reaches (f : LoopFacts) (me d e : ℕ) (x : Placed) : Type 0 where
  pub other : x.place.owner ≢ me
  pub decomposition : decomposition_met f x.used ≡ d
  pub element : stands_met f x.used ≡ e

-- what an entry has, it still has
pub record IsGrown (h : Held) (o : Option Held) : Type 0 where
  pub held : Held
  pub is : o ≡ Some held
  pub place : held.place ≡ h.place
  pub slot : held.slot ≡ h.slot
  pub stamps : (stamp : ℕ) → bit_at h.mask stamp ≡ 1 → bit_at held.mask stamp ≡ 1

abbrev pub HaveGrown : List Stamps → List Stamps → Type 0
HaveGrown before after = (d e : ℕ) (h : Held) → entry_at before d e ≡ Some h → IsGrown h (entry_at after d e)

-- one of these references that reaches the element
pub record IsBy (f : LoopFacts) (me d e : ℕ) (placed : List Placed) (P : Placed → Type 0) : Type 0 where
  pub by : Placed
  pub among : Among by placed
  pub reaches : Reaches f me d e by
  pub has : P by

-- the place and the stamps of an entry are those that it had before, or come of these references
pub record Comes (f : LoopFacts) (me d e : ℕ) (before : Option Held) (placed : List Placed) (h : Held) : Type 0 where
  pub place : ((k : Held) × (before ≡ Some k) × (h.place ≡ k.place)) ⊎ IsBy f me d e placed (λ x. h.place ≡ x.place)
  pub stamps : (stamp : ℕ) → bit_at h.mask stamp ≡ 1 → HasStamp before stamp ⊎ IsBy f me d e placed (λ x. x.used.stamp ≡ stamp)

abbrev pub AllCome : LoopFacts → ℕ → List Stamps → List Placed → List Stamps → Type 0
AllCome f me before placed after = (d e : ℕ) (h : Held) → entry_at after d e ≡ Some h → Comes f me d e (entry_at before d e) placed h

-- a reference to the node's own element, or to the entry with its stamp of another node's
abbrev pub IsFound : LoopFacts → ℕ → List Stamps → Placed → LocalRef → Type 0
IsFound f me tables x (Here local) = (x.place.owner ≡ me) × (local ≡ x.place.local)
IsFound f me tables x (Ghost slot) =
    (x.place.owner ≢ me)
    × ((h : Held) × (entry_at tables (decomposition_met f x.used) (stands_met f x.used) ≡ Some h) × (h.slot ≡ slot)
    × (bit_at h.mask x.used.stamp ≡ 1))
