-- What is kept of a loop while another is prepared.
use Rattle.fd_program.specs.AmongLaws.{zip_weaker, from_map, from_filter, both_true, number_is}
use Rattle.std.proofs.Common.{◌≡◌, ℕ, ◌<◌, Bool, true, false, not, ◌&&◌, ◌||◌, ◌==◌, List, [], ◌∷◌, Option, Some, None, refl, ap, sym}
use Rattle.std.proofs.Common.{subst, ◌∙◌, inl, inr, true≢false}
use Rattle.std.specs.Prelude.{if◌then◌else◌, All}
use Rattle.std.specs.Int.{bit_at}
use Rattle.std.specs.List.{list_any}
use Rattle.std.proofs.lemmas.List.Elements.{recursion_from_All}
use Rattle.std.proofs.lemmas.Option.{none-some, same_Some}
use Rattle.fd_words.specs.declared.place.Role.{Role}
use Rattle.fd_words.specs.declared.place.Role.TheVariants.{Index}
use Rattle.chaos_dist.specs.Counting.{below}
use Rattle.chaos_hash.specs.Stamps.{Stamps, has_stamp}
use Rattle.chaos_hash.specs.declared.held.Held.{Held}
use Rattle.plan_tables.specs.Fits.{StandsFor, IsOther, AreItems}
use Rattle.fd_program.specs.Met.{kept_uses}
use Rattle.plan_tables.specs.SlotLaws.{slot_is, has_of, of_has}
use Rattle.plan_tables.specs.Laws.{IsPreparedBeside, GoesOnFitting, StaysEntered}
use Rattle.plan_tables.specs.Tables.{HasStamp, entry_at, stamps_of, slot_by, slots_entered}
use Rattle.chaos_sched.specs.declared.item.Item.{Item}
use Rattle.chaos_sched.specs.declared.local_ref.LocalRef.{LocalRef}
use Rattle.chaos_sched.specs.declared.local_ref.LocalRef.TheVariants.{Here, Ghost}
use Rattle.fd_program.specs.Cells.{Cell}
use Rattle.fd_program.specs.Checks.{IsReference, AreApart}
use Rattle.fd_program.specs.Homes.{needed_of, given_of}
use Rattle.fd_program.specs.ListLaws.{Among, all_among}
use Rattle.fd_program.specs.Places.{decomposition_of}
use Rattle.fd_words.specs.Roles.{is_index}
use Rattle.fd_program.specs.declared.loop_facts.LoopFacts.{LoopFacts}
use Rattle.fd_program.specs.declared.loop_use.Use.{Use}
use Rattle.fd_program.specs.declared.reference.Reference.{Reference}

-- the reference of a stamp
record IsStampOf (f : LoopFacts) (d stamp : ℕ) : Type 0 where
  reference : Reference
  among : Among reference f.site.references
  no_index : not (is_index reference.role) ≡ true
  decomposition : decomposition_of f.arrays reference.array ≡ d
  is : stamp ≡ reference.stamp

stamp_of : (f : LoopFacts) (d stamp : ℕ) → Among stamp (stamps_of f d) → IsStampOf f d stamp
stamp_of f d stamp a =
    let m = from_map (λ (r : Reference). r.stamp) _ stamp a in
    let p = from_filter (λ (r : Reference). not (is_index r.role) && (decomposition_of f.arrays r.array == d)) f.site.references m.0 m.1 in
    let both = both_true (not (is_index m.0.role)) _ p.1 in
    record { reference = m.0; among = p.0; no_index = both.0; decomposition = number_is _ d both.1; is = m.2 }

not_index : (r : Role) → not (is_index r) ≡ true → r ≡ Index → ⊥
not_index r e same = true≢false (sym (ap (λ k. not (is_index k)) (sym same) ∙ e))

any_to : (mask : ℕ) (stamps : List ℕ) → list_any (has_stamp mask) stamps ≡ true → (stamp : ℕ) × Among stamp stamps × (bit_at mask stamp ≡ 1)
any_to mask [] e = absurd (true≢false (sym e))
any_to mask (s ∷ stamps) e = by (has_stamp mask s) refl e (any_to mask stamps)
  where
    by : (b : Bool) → has_stamp mask s ≡ b → (b || list_any (has_stamp mask) stamps) ≡ true → (list_any (has_stamp mask) stamps ≡ true
        → (stamp : ℕ) × Among stamp stamps × (bit_at mask stamp ≡ 1))
        → (stamp : ℕ) × Among stamp (s ∷ stamps) × (bit_at mask stamp ≡ 1)
    by true here e rest = (s, inl refl, number_is (bit_at mask s) 1 here)
    by false here e rest = let r = rest e in (r.0, inr r.1, r.2)

module _ (f other : LoopFacts) (before after : List Stamps) (beside : IsPreparedBeside f other before after) where
  not_other : (d stamp : ℕ) → Among stamp (stamps_of f d) → Among stamp (stamps_of other d) → ⊥
  not_other d stamp a b =
      let r = stamp_of f d stamp a in
      let s = stamp_of other d stamp b in
      let P : Reference → Type 0 = λ q. All (AreApart f.arrays q) other.site.references in
      let rows = all_among P f.site.references r.reference (recursion_from_All P f.site.references beside.stamps) r.among in
      let apart : AreApart f.arrays r.reference s.reference =
      all_among (AreApart f.arrays r.reference) other.site.references s.reference
      (recursion_from_All (AreApart f.arrays r.reference) other.site.references rows) s.among in
      apart (not_index r.reference.role r.no_index) (not_index s.reference.role s.no_index)
      (r.decomposition ∙ sym (ap (λ arrays. decomposition_of arrays s.reference.array) (sym beside.arrays) ∙ s.decomposition)) (sym r.is
      ∙ s.is)

  small : (d stamp : ℕ) → Among stamp (stamps_of f d) → stamp < 128
  small d stamp a =
      let r = stamp_of f d stamp a in
      subst (λ n. n < 128) (sym r.is) (all_among (IsReference f.arrays) f.site.references r.reference
      (recursion_from_All (IsReference f.arrays) f.site.references beside.site.references) r.among).stamp

  slots_stay : (d e slot : ℕ) → slots_entered f before d e ≡ Some slot → slots_entered f after d e ≡ Some slot
  slots_stay d e slot told = by (entry_at before d e) refl told
    where
      further : (h : Held) → entry_at before d e ≡ Some h → (b : Bool) → list_any (has_stamp h.mask) (stamps_of f d) ≡ b
          → (if b then Some h.slot else None) ≡ Some slot → slots_entered f after d e ≡ Some slot
      further h is false any told = absurd (none-some slot told)
      further h is true any told =
          let s = any_to h.mask (stamps_of f d) any in
          let still = beside.keeps.keeps d e s.0 h (small d s.0 s.1) (not_other d s.0 s.1) is s.2 in
          slot_is (stamps_of f d) (entry_at after d e) still.held s.0 still.is s.1 still.has
          ∙ ap Some (still.same_slot ∙ same_Some h.slot slot told)

      by : (o : Option Held) → entry_at before d e ≡ o → slot_by (stamps_of f d) o ≡ Some slot → slots_entered f after d e ≡ Some slot
      by None is told = absurd (none-some slot told)
      by (Some h) is told = further h is (list_any (has_stamp h.mask) (stamps_of f d)) refl told

  pub entered_stays : (d e stamp : ℕ) → Among stamp (stamps_of f d) → HasStamp (entry_at before d e) stamp
      → HasStamp (entry_at after d e) stamp
  entered_stays d e stamp own has =
      let h = of_has (entry_at before d e) stamp has in
      let still = beside.keeps.keeps d e stamp h.0 (small d stamp own) (not_other d stamp own) h.1 h.2 in
      has_of (entry_at after d e) still.held stamp still.is still.has

  pub entered_before : (d e stamp : ℕ) → Among stamp (stamps_of f d) → HasStamp (entry_at after d e) stamp
      → HasStamp (entry_at before d e) stamp
  entered_before d e stamp own has = beside.keeps.gives_none d e stamp (not_other d stamp own) has

stands_still : (f : LoopFacts) (owners : List (List ℕ)) (one two : ℕ → ℕ → Option ℕ) (p : ℕ)
    → ((d e slot : ℕ) → one d e ≡ Some slot → two d e ≡ Some slot)
    → (u : Use) (r : LocalRef) → StandsFor f owners one p u r → StandsFor f owners two p u r
stands_still f owners one two p more u (Here local) h = h
stands_still f owners one two p more u (Ghost slot) h = (h.0, more _ _ slot h.1)

items_still : (f : LoopFacts) (owners : List (List ℕ)) (one two : ℕ → ℕ → Option ℕ) (cells : ℕ → List Cell) (lists : List (List Item))
    → ((d e slot : ℕ) → one d e ≡ Some slot → two d e ≡ Some slot)
    → AreItems f.nodes (IsOther f owners one) cells lists → AreItems f.nodes (IsOther f owners two) cells lists
items_still f owners one two cells lists more h =
    zip_weaker _ _ (λ q items k. zip_weaker (IsOther f owners one) (IsOther f owners two) (λ x i both. (both.0, more _ _ i.slot both.1))
    (cells q) items k) (below f.nodes) lists h

pub goes_on_fitting : GoesOnFitting
goes_on_fitting f other owners store p before after kept beside fits =
    let more = slots_stay f other before after beside in
    record {
      iterations = fits.iterations;
      references = zip_weaker _ _ (stands_still f owners (slots_entered f before) (slots_entered f after) p more)
          (kept_uses f store kept.iterations) kept.references fits.references;
      gather_send = fits.gather_send;
      gather_fetch = items_still f owners (slots_entered f before) (slots_entered f after) (λ q. needed_of f owners store p q)
          kept.schedule.gather_fetch more fits.gather_fetch;
      scatter_send = items_still f owners (slots_entered f before) (slots_entered f after) (λ q. given_of f owners store p q)
          kept.schedule.scatter_send more fits.scatter_send;
      scatter_take = fits.scatter_take;
    }

pub stays_entered : StaysEntered
stays_entered f other owners store p before after beside entered d e stamp own =
    let h = entered d e stamp own in (
      λ has. h.0 (entered_before f other before after beside d e stamp own has),
      λ a. entered_stays f other before after beside d e stamp
          own (h.1 a),
    )
