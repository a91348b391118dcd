-- What stamped tables tell of slots, and of the ghosts that are made for them.
use Rattle.std.proofs.Common.{◌≡◌, ℕ, zero, suc, ◌+◌, ◌<◌, ◌≤◌, pos, Bool, true, false, List, [], ◌∷◌, length, map, replicate, Option, Some}
use Rattle.std.proofs.Common.{None, unwrap_or, refl, ap, sym, subst, ◌∙◌, arith, inl, inr}
use Rattle.std.specs.Prelude.{slice_get, if◌then◌else◌}
use Rattle.std.specs.List.{list_any, range_with_len}
use Rattle.std.specs.FinMap as fin
use Rattle.std.specs.Ordering.{nat_cmp}
use Rattle.std.proofs.lemmas.Bool.{cases_lt}
use Rattle.std.proofs.lemmas.Option.{none-some}
use Rattle.std.proofs.lemmas.List.{length-replicate, length-map}
use Rattle.fd_words.specs.Lists.{list_at}
use Rattle.chaos_dist.specs.Counting.{below}
use Rattle.fd_program.specs.Places.{decomposition_of}
use Rattle.fd_program.specs.Stores.{no_array}
use Rattle.fd_program.specs.declared.array.ArrayFacts.{ArrayFacts}
use Rattle.fd_program.specs.declared.loop_facts.LoopFacts.{LoopFacts}
use Rattle.chaos_hash.specs.Stamps.{Stamps, has_stamp}
use Rattle.chaos_hash.specs.declared.held.Held.{Held}
use Rattle.plan_tables.specs.Fits.{HaveOwnSlots, HasRoom}
use Rattle.plan_tables.specs.Tables.{no_table, table_at, entry_at, slot_by, slots_entered, stamps_of}
use Rattle.chaos_execute.proofs.Lists.{mapped_at, below_at}
use Rattle.fd_program.specs.ListLaws.{some_at}
use Rattle.chaos_executing.specs.Ghosts.{AreStamped, ghosts_below, no_ghosts}

-- an entry with this slot
record HasSlot (o : Option Held) (slot : ℕ) : Type 0 where
  held : Held
  is : o ≡ Some held
  slot_is : held.slot ≡ slot

slot_found : (stamps : List ℕ) (o : Option Held) (slot : ℕ) → slot_by stamps o ≡ Some slot → HasSlot o slot
slot_found stamps None slot e = absurd (none-some slot e)
slot_found stamps (Some h) slot e = by (list_any (has_stamp h.mask) stamps) e
  where
    by : (b : Bool) → (if b then Some h.slot else None) ≡ Some slot → HasSlot (Some h) slot
    by true f = record { held = h; is = refl; slot_is = (let same : h.slot ≡ slot = cc in same) }
    by false f = absurd (none-some slot f)

entry_within : (tables : List Stamps) (d e : ℕ) (h : Held) → entry_at tables d e ≡ Some h → d < length tables
entry_within [] d e h found = absurd (none-some h (sym (fin.get-empty nat_cmp e) ∙ found))
entry_within (t ∷ tables) zero e h found = omega arith
entry_within (t ∷ tables) (suc d) e h found = let rest : d < length tables = entry_within tables d e h found in omega (arith, rest)

-- the slots of two elements of a decomposition differ
pub slots_apart : (f : LoopFacts) (tables : List Stamps) → AreStamped tables → HaveOwnSlots (slots_entered f tables)
slots_apart f tables stamped d e g slot he hg =
    let one = slot_found (stamps_of f d) (entry_at tables d e) slot he in
    let two = slot_found (stamps_of f d) (entry_at tables d g) slot hg in
    (stamped d (entry_within tables d e one.held one.is)).apart e g one.held two.held one.is two.is (one.slot_is ∙ sym two.slot_is)

ghost_count : (f : LoopFacts) (tables : List Stamps) (array : ℕ) → array < length f.arrays
    → length (list_at (no_ghosts f tables) array) ≡ (table_at tables (decomposition_of f.arrays array)).peak
ghost_count f tables array h =
    let found = some_at f.arrays array h in
    ap length (mapped_at (λ (a : ArrayFacts). replicate (table_at tables a.decomposition).peak (pos 0)) f.arrays array found.0 [] found.1)
    ∙ length-replicate (table_at tables found.0.decomposition).peak (pos 0)
    ∙ ap (λ (o : Option ArrayFacts). (table_at tables (unwrap_or o no_array).decomposition).peak) (sym found.1)

-- and the ghosts have room for each
pub ghosts_have_room : (f : LoopFacts) (tables : List Stamps) → AreStamped tables → HasRoom f (slots_entered f tables) (no_ghosts f tables)
ghosts_have_room f tables stamped array e slot h at =
    let d = decomposition_of f.arrays array in
    let one = slot_found (stamps_of f d) (entry_at tables d e) slot at in
    let low : one.held.slot < (table_at tables d).peak = (stamped d (entry_within tables d e one.held one.is)).below e one.held one.is in
    subst (λ n. slot < n) (sym (ghost_count f tables array h)) (subst (λ n. n < (table_at tables d).peak) one.slot_is low)

-- ---- ghosts by peaks

abbrev pub peaks_of : List Stamps → List ℕ
peaks_of tables = map (λ d. (table_at tables d).peak) (below (length tables))

no_table_there : (tables : List Stamps) (d : ℕ) → length tables ≤ d → table_at tables d ≡ no_table
no_table_there [] d h = refl
no_table_there (t ∷ tables) zero h = absurd (omega arith)
no_table_there (t ∷ tables) (suc d) h = no_table_there tables d (omega (arith, h))

none_there : (xs : List ℕ) (k : ℕ) → length xs ≤ k → unwrap_or (slice_get xs k) 0 ≡ 0
none_there [] k h = refl
none_there (x ∷ xs) zero h = absurd (omega arith)
none_there (x ∷ xs) (suc k) h = none_there xs k (omega (arith, h))

below_count : (a n : ℕ) → length (range_with_len a n) ≡ n
below_count a zero = refl
below_count a (suc n) = let rest : length (range_with_len (a + 1) n) ≡ n = below_count (a + 1) n in omega (arith, rest)

peak_at : (tables : List Stamps) (d : ℕ) → unwrap_or (slice_get (peaks_of tables) d) 0 ≡ (table_at tables d).peak
peak_at tables d = elim (cases_lt d (length tables)) [
  | inr outside ↦
      let count : length (peaks_of tables) ≡ length tables = length-map (below (length tables)) (λ d. (table_at tables d).peak)
      ∙ below_count 0 (length tables) in
      none_there (peaks_of tables) d (subst (λ n. n ≤ d) (sym count) outside)
      ∙ ap (λ (t : Stamps). t.peak) (sym (no_table_there tables d outside))
  | inl inside ↦ below_at (λ d. (table_at tables d).peak) (length tables) d 0 inside
]

by_peaks : (tables : List Stamps) (arrays : List ArrayFacts)
    → ghosts_below arrays (peaks_of tables) ≡ map (λ (a : ArrayFacts). replicate (table_at tables a.decomposition).peak (pos 0)) arrays
by_peaks tables [] = refl
by_peaks tables (a ∷ arrays) =
    ap (λ n. replicate n (pos 0) ∷ ghosts_below arrays (peaks_of tables)) (peak_at tables a.decomposition)
    ∙ ap (λ l. replicate (table_at tables a.decomposition).peak (pos 0) ∷ l) (by_peaks tables arrays)

pub ghosts_by_peaks : (f : LoopFacts) (tables : List Stamps) → ghosts_below f.arrays (peaks_of tables) ≡ no_ghosts f tables
ghosts_by_peaks f tables = by_peaks tables f.arrays
