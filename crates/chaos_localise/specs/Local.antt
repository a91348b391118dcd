-- A list of elements that is entered, and what it becomes.
use Rattle.std.specs.Prelude.{◌≡◌, ◌≢◌, ℕ, not, ◌&&◌, List, [], ◌∷◌, Option, Some, None, nat_eq, if◌then◌else◌}
use Rattle.std.specs.FinMap as fin
use Rattle.fd_words.specs.declared.Place.{Place}
use Rattle.chaos_hash.specs.declared.held.Held.{Held}
use Rattle.chaos_hash.specs.Stamps.{Entries, mask_of, with_stamps}
use Rattle.chaos_localise.specs.declared.entered.Entered.{Entered}
use Rattle.chaos_sched.specs.declared.local_ref.LocalRef.{LocalRef}
use Rattle.chaos_sched.specs.declared.local_ref.LocalRef.TheVariants.{Here, Ghost}

-- what an element has, but for its slot: its place and its stamps
abbrev pub bare : Option Held → Option (Place × ℕ)
bare None = None
bare (Some h) = Some (h.place, h.mask)

abbrev pub bare_entered : Option (Place × ℕ) → Place → ℕ → Option (Place × ℕ)
bare_entered None place stamp = Some (place, mask_of stamp)
bare_entered (Some b) place stamp = Some (b.0, with_stamps b.1 (mask_of stamp))

-- what element q has once these items are entered, those of node me left out
abbrev pub after_items : ℕ → ℕ → List Entered → Option (Place × ℕ) → Option (Place × ℕ)
after_items me q [] b = b
after_items me q (i ∷ is) b = after_items me q is (if not (nat_eq i.place.owner me) && nat_eq q i.element
    then bare_entered b i.place i.stamp else b)

-- the local address of a place on this node, else the slot of the element's entry
abbrev pub IsLocal : ℕ → Entries → Entered → LocalRef → Type 0
IsLocal me m i (Here local) = (i.place.owner ≡ me) × (local ≡ i.place.local)
IsLocal me m i (Ghost slot) = (i.place.owner ≢ me) × ((h : Held) × (fin.get m i.element ≡ Some h) × (h.slot ≡ slot))

-- each entry is still there, with its slot
abbrev pub KeepsSlots : Entries → Entries → Type 0
KeepsSlots m n = (q : ℕ) (h : Held) → fin.get m q ≡ Some h → (k : Held) × (fin.get n q ≡ Some k) × (k.slot ≡ h.slot)
