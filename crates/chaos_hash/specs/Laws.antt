-- What an entry keeps.
use Rattle.std.specs.Prelude.{◌≡◌, ℕ, ◌<◌, ◌≢◌, Option, Some}
use Rattle.std.specs.Int.{bit_at}
use Rattle.std.specs.FinMap as fin
use Rattle.fd_words.specs.declared.Place.{Place}
use Rattle.chaos_hash.specs.declared.held.Held.{Held}
use Rattle.chaos_hash.specs.Stamps.{Entries, entered, cleared, mask_of}

-- an entry with this place and slot, and with this stamp
pub record IsStill (o : Option Held) (place : Place) (slot stamp : ℕ) : Type 0 where
  pub held : Held
  pub is : o ≡ Some held
  pub same_place : held.place ≡ place
  pub same_slot : held.slot ≡ slot
  pub has : bit_at held.mask stamp ≡ 1

abbrev pub StaysWhenEntered : Type 0
StaysWhenEntered = (m : Entries) (q stamp : ℕ) (h : Held) → fin.get m q ≡ Some h → bit_at h.mask stamp ≡ 1
    → (element : ℕ) (place : Place) (other slot : ℕ)
    → IsStill (fin.get (fin.insert m element (entered (fin.get m element) place other slot)) q) h.place h.slot stamp

abbrev pub StaysWhenCleared : Type 0
StaysWhenCleared = (h : Held) (stamp other : ℕ) → stamp < 128 → other < 128 → stamp ≢ other → bit_at h.mask stamp ≡ 1
    → IsStill (cleared (mask_of other) (Some h)) h.place h.slot stamp
