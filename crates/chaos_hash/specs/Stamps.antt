-- Stamped entries.
use Rattle.std.specs.Prelude.{◌≡◌, ℕ, ℤ, pos, zero, suc, ◌*◌, ◌%◌, ◌^◌, ◌<◌, ◌≤◌, ◌==◌, ◌≢◌, Bool, not, if◌then◌else◌, List, [], ◌∷◌, ◌++◌}
use Rattle.std.specs.Prelude.{length, map, filter, slice_get, Option, Some, None, IsPermutation}
use Rattle.std.specs.List.{flat_map, AllByRecursion}
use Rattle.std.specs.Int.{w128, bit_at, bit_not}
use Rattle.std.specs.Int.RustNames.{bit_and, bit_or}
use Rattle.std.specs.Ordering.{nat_cmp}
use Rattle.std.specs.FinMap as fin
use Rattle.std.specs.Coded.{Coded, code_by, coded×, coded_ℕ}
use Rattle.std.specs.Prelude.{refl}
use Rattle.fd_words.specs.declared.Place.{Place}
use Rattle.chaos_hash.specs.declared.held.Held.{Held}
use Rattle.chaos_hash.specs.Slots.{Slots}

-- ---- masks: stamp s is the bit s

abbrev pub mask_of : ℕ → ℕ
mask_of stamp = 1 * 2 ^ stamp % 2 ^ 128

abbrev pub has_stamp : ℕ → ℕ → Bool
has_stamp mask stamp = bit_at mask stamp == 1

-- whether the two masks have a stamp in common
abbrev pub meets : ℕ → ℕ → Bool
meets mask other = not (bit_and mask other == 0)

abbrev pub with_stamps : ℕ → ℕ → ℕ
with_stamps mask other = bit_or mask other

abbrev pub without_stamps : ℕ → ℕ → ℕ
without_stamps mask other = bit_and mask (bit_not w128 other)

-- ---- entries

abbrev pub Entries : Type 0
Entries = fin.FinMap nat_cmp Held

pub record Stamps : Type 0 where
  pub held : Entries
  pub peak : ℕ

abbrev pub held_code : Coded Held
held_code = code_by (ℕ × (ℕ × (ℕ × ℕ))) (coded× coded_ℕ (coded× coded_ℕ (coded× coded_ℕ coded_ℕ)))
    (λ h. (h.place.owner, (h.place.local, (h.mask, h.slot))))
    (λ p. record { place = record { owner = p.0; local = p.1.0 }; mask = p.1.1.0; slot = p.1.1.1 }) (λ _. refl)

abbrev pub stamps_code : Coded Stamps
stamps_code = code_by (Entries × ℕ) (coded× (fin.code coded_ℕ held_code) coded_ℕ) (λ s. (s.held, s.peak))
    (λ p. record { held = p.0; peak = p.1 }) (λ _. refl)

-- what an element has once it is entered: its own place and slot if it lives, else these
abbrev pub entered : Option Held → Place → ℕ → ℕ → Held
entered None place stamp slot = record { place = place; mask = mask_of stamp; slot = slot }
entered (Some h) place stamp slot = record { place = h.place; mask = with_stamps h.mask (mask_of stamp); slot = h.slot }

abbrev pub less : ℕ → Held → Held
less stamps h = record { place = h.place; mask = without_stamps h.mask stamps; slot = h.slot }

abbrev pub lives : Held → Bool
lives h = not (h.mask == 0)

abbrev pub cleared_list : ℕ → List (ℕ × Held) → List (ℕ × Held)
cleared_list stamps es = filter (λ e. lives e.1) (map (λ e. (e.0, less stamps e.1)) es)

-- what is left of an entry once these stamps are taken
abbrev pub cleared : ℕ → Option Held → Option Held
cleared stamps None = None
cleared stamps (Some h) = if lives (less stamps h) then Some (less stamps h) else None

-- ---- the table: its entries in the order of the hash table, and the slots

abbrev pub slots_of : List (ℕ × Held) → List ℕ
slots_of es = map (λ e. e.1.slot) es

-- 0, 1 and so on, n of them
abbrev pub slots_below : ℕ → List ℕ
slots_below zero = []
slots_below (suc n) = slots_below n ++ n ∷ []

pub record IsKept (es : List (ℕ × Held)) (p : Slots) : Type 0 where
  pub slots : IsPermutation (slots_below (length p.holders)) (slots_of es ++ p.free)
  pub holders : AllByRecursion (λ (e : ℕ × Held). slice_get p.holders e.1.slot ≡ Some e.0) es
  pub few : length p.holders < 4294967296
  pub masks : AllByRecursion (λ (e : ℕ × Held). e.1.mask ≢ 0) es

-- its slot, if it is left with no stamp
abbrev pub dying_slot : ℕ → Held → List ℕ
dying_slot stamps h = if lives (less stamps h) then [] else h.slot ∷ []

abbrev pub slots_dying : ℕ → List (ℕ × Held) → List ℕ
slots_dying stamps es = flat_map (λ e. dying_slot stamps e.1) es

abbrev pub chosen_list : ℕ → List (ℕ × Held) → List (ℕ × Held)
chosen_list mask es = filter (λ e. meets e.1.mask mask) es

-- ---- what callers read

-- no living entry has this slot
abbrev pub IsFree : Entries → ℕ → Type 0
IsFree m slot = (q : ℕ) (h : Held) → fin.get m q ≡ Some h → h.slot ≢ slot

-- the element and the place are those of a living entry with this slot
abbrev pub IsEntryAt : Entries → ℕ → ℕ × Place → Type 0
IsEntryAt m slot e = (h : Held) × (fin.get m e.0 ≡ Some h) × (h.slot ≡ slot) × (h.place ≡ e.1)

abbrev pub chosen_slots : ℕ → Entries → List ℤ
chosen_slots mask m = map (λ e. pos e.1.slot) (chosen_list mask (fin.entries m))

-- what is true of every table
pub record IsStamped (s : Stamps) : Type 0 where
  pub below : (q : ℕ) (h : Held) → fin.get s.held q ≡ Some h → h.slot < s.peak
  pub apart : (q r : ℕ) (h k : Held) → fin.get s.held q ≡ Some h → fin.get s.held r ≡ Some k → h.slot ≡ k.slot → q ≡ r
  pub stamped : (q : ℕ) (h : Held) → fin.get s.held q ≡ Some h → h.mask ≢ 0
  pub few : fin.len s.held ≤ s.peak
