-- The stamped tables of a node, one for each decomposition, and what of them is a loop's own.
use Rattle.std.specs.Prelude.{◌≡◌, ◌<◌, ℕ, ℤ, not, ◌&&◌, ◌==◌, ◌↔◌, if◌then◌else◌, List, map, filter, fold, slice_get, slice_set, unwrap_or}
use Rattle.std.specs.Prelude.{max, Option, Some, None}
use Rattle.std.specs.List.{AllByRecursion, list_any}
use Rattle.std.specs.Int.{bit_at}
use Rattle.std.specs.FinMap as fin
use Rattle.fd_words.specs.Lists.{list_at}
use Rattle.fd_words.specs.declared.Place.{Place}
use Rattle.chaos_table.specs.Pages.{place_in}
use Rattle.chaos_hash.specs.Laws.{IsStill}
use Rattle.chaos_hash.specs.Stamps.{Stamps, entered, cleared, mask_of, has_stamp}
use Rattle.chaos_hash.specs.declared.held.Held.{Held}
use Rattle.fd_program.specs.Met.{kept_uses, decomposition_met, stands_met}
use Rattle.fd_program.specs.Checks.{IsExtent}
use Rattle.fd_program.specs.Homes.{owner_met, executed_by}
use Rattle.fd_program.specs.ListLaws.{Among}
use Rattle.fd_program.specs.Places.{decomposition_of}
use Rattle.fd_words.specs.Roles.{is_index}
use Rattle.fd_program.specs.declared.loop_facts.LoopFacts.{LoopFacts}
use Rattle.fd_program.specs.declared.reference.Reference.{Reference}

abbrev pub no_table : Stamps
no_table = record { held = fin.empty; peak = 0 }

abbrev pub table_at : List Stamps → ℕ → Stamps
table_at tables d = unwrap_or (slice_get tables d) no_table

-- the entry of element e of decomposition d
abbrev pub entry_at : List Stamps → ℕ → ℕ → Option Held
entry_at tables d e = fin.get (table_at tables d).held e

-- there is an entry, and it has this stamp
abbrev pub HasStamp : Option Held → ℕ → Type 0
HasStamp None stamp = ⊥
HasStamp (Some h) stamp = bit_at h.mask stamp ≡ 1

-- its elements are numbers from 1 to the greatest extent
abbrev pub HasElements : Stamps → Type 0
HasElements t = (e : ℕ) (h : Held) → fin.get t.held e ≡ Some h → IsExtent e

abbrev pub AreTables : List Stamps → Type 0
AreTables tables = AllByRecursion HasElements tables

-- one more element in a table
abbrev pub entered_in : List Stamps → ℕ → ℕ → Place → ℕ → ℕ → List Stamps
entered_in tables d e place stamp slot =
    let held = fin.insert (table_at tables d).held e (entered (entry_at tables d e) place stamp slot) in
    slice_set tables d (record { held = held; peak = max (table_at tables d).peak (fin.len held) })

-- a table without its entries
abbrev pub dropped_in : List Stamps → ℕ → List Stamps
dropped_in tables d = slice_set tables d (record { held = fin.empty; peak = (table_at tables d).peak })

-- ---- the stamps of a loop

-- those of its references in a decomposition
abbrev pub stamps_of : LoopFacts → ℕ → List ℕ
stamps_of f d =
    map (λ (r : Reference). r.stamp) (filter (λ (r : Reference). not (is_index r.role) && (decomposition_of f.arrays r.array == d))
    f.site.references)

abbrev pub slot_by : List ℕ → Option Held → Option ℕ
slot_by stamps None = None
slot_by stamps (Some h) = if list_any (has_stamp h.mask) stamps then Some h.slot else None

-- the slot of an element whose entry has a stamp of the loop
abbrev pub slots_entered : LoopFacts → List Stamps → ℕ → ℕ → Option ℕ
slots_entered f tables d e = slot_by (stamps_of f d) (entry_at tables d e)

-- an entry of decomposition d without the stamp of a reference, and without those of several
abbrev pub cleared_by : LoopFacts → ℕ → Reference → Option Held → Option Held
cleared_by f d r o = if not (is_index r.role) && (d == decomposition_of f.arrays r.array) then cleared (mask_of r.stamp) o else o

abbrev pub cleared_all : LoopFacts → ℕ → List Reference → Option Held → Option Held
cleared_all f d references o = fold (λ left r. cleared_by f d r left) o references

-- the elements of other nodes that p's references with this stamp reach in a decomposition
abbrev pub reached : LoopFacts → List (List ℕ) → List (List ℤ) → ℕ → ℕ → ℕ → List ℕ
reached f owners store p d stamp =
    map (stands_met f)
    (filter (λ u. (decomposition_met f u == d) && (u.stamp == stamp) && not (owner_met f owners u == p))
    (kept_uses f store (executed_by f owners store p)))

-- the entries with a stamp of the loop are just the elements of other nodes that p's references with that stamp reach
abbrev pub IsEntered : LoopFacts → List (List ℕ) → List (List ℤ) → ℕ → List Stamps → Type 0
IsEntered f owners store p tables =
    (d e stamp : ℕ) → Among stamp (stamps_of f d) → HasStamp (entry_at tables d e) stamp ↔ Among e (reached f owners store p d stamp)

-- each entry has the place of its element
abbrev pub HasPlaces : List (List ℕ) → List Stamps → Type 0
HasPlaces owners tables = (d e : ℕ) (h : Held) → entry_at tables d e ≡ Some h → h.place ≡ place_in (list_at owners d) e

-- The stamps that aren't the loop's stay: an entry keeps each of them, and with it its place and its slot, and gets no other.
pub record KeepsOtherStamps (f : LoopFacts) (before after : List Stamps) : Type 0 where
  pub keeps : (d e stamp : ℕ) (h : Held) → stamp < 128 → (Among stamp (stamps_of f d) → ⊥) → entry_at before d e ≡ Some h
      → bit_at h.mask stamp ≡ 1
      → IsStill (entry_at after d e) h.place h.slot stamp
  pub gives_none : (d e stamp : ℕ) → (Among stamp (stamps_of f d) → ⊥) → HasStamp (entry_at after d e) stamp
      → HasStamp (entry_at before d e) stamp
