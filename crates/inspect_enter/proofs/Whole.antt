-- What is left when all references of a node's iterations are entered.
use Rattle.fd_program.specs.AmongLaws.{both_true, number_is, zip_among, from_filter, from_map, among_map, among_filter}
use Rattle.std.proofs.lemmas.Int.{ints}
use Rattle.chaos_dist.specs.Homes.{natural}
use Rattle.inspect_uses.specs.Standing.{standing}
use Rattle.std.proofs.Common.{pos, negsuc, ◌≤ℤ◌, ◌^◌, ◌||◌, ◌≡◌, ℕ, ◌<◌, ℤ, Bool, true, false, cond, not, ◌&&◌, ◌==◌, List, [], ◌∷◌, map}
use Rattle.std.proofs.Common.{filter, Option, Some, None, refl, ap, sym, subst, ◌∙◌, arith, inl, inr, true≢false}
use Rattle.std.specs.Prelude.{All, if◌then◌else◌}
use Rattle.std.specs.Int.{bit_at}
use Rattle.std.specs.List.{AllByRecursion, AllZip, list_any}
use Rattle.std.proofs.lemmas.Bool.Decides.{eqb_tells}
use Rattle.std.proofs.lemmas.List.Elements.{recursion_from_All, All-from_recursion}
use Rattle.fd_words.specs.Lists.{list_at}
use Rattle.chaos_table.specs.Pages.{place_in}
use Rattle.chaos_hash.specs.Laws.{IsStill}
use Rattle.chaos_hash.specs.Stamps.{Stamps, has_stamp}
use Rattle.chaos_hash.specs.declared.held.Held.{Held}
use Rattle.plan_tables.specs.Fits.{StandsFor, slot_for}
use Rattle.fd_program.specs.Met.{decomposition_met, stands_met}
use Rattle.inspect_enter.proofs.Own.{all_less, all_rest, all_gone, all_still}
use Rattle.inspect_enter.specs.Needs.{needs_of, need_in}
use Rattle.inspect_enter.specs.Placed.{MayBeStamped, placed_at, HaveGrown, IsBy, AllCome, IsFound}
use Rattle.inspect_enter.specs.Preparing.{IsNeed}
use Rattle.plan_tables.specs.SlotLaws.{equal_numbers, unequal_numbers, not_number, slot_is, has_of, of_has}
use Rattle.plan_tables.specs.Tables.{HasStamp, entry_at, stamps_of, slot_by, slots_entered, cleared_all, HasPlaces, KeepsOtherStamps}
use Rattle.inspect_enter.specs.declared.placed.Placed.{Placed}
use Rattle.inspect_uses.specs.Accepted.{IsAccepted}
use Rattle.inspect_uses.specs.Reached.{place_met}
use Rattle.chaos_sched.specs.declared.local_ref.LocalRef.{LocalRef}
use Rattle.chaos_sched.specs.declared.local_ref.LocalRef.TheVariants.{Here, Ghost}
use Rattle.chaos_sched.specs.declared.need.Need.{Need}
use Rattle.fd_program.specs.Checks.{IsReference}
use Rattle.fd_program.specs.Homes.{owner_met}
use Rattle.fd_program.specs.ListLaws.{Among, all_among, all_weaker}
use Rattle.fd_program.specs.declared.loop_facts.LoopFacts.{LoopFacts}
use Rattle.fd_program.specs.declared.loop_use.Use.{Use}

-- ---- the tables

module _ (f : LoopFacts) (me : ℕ) (accepted : IsAccepted f) (old mid new : List Stamps) (placed : List Placed)
    (kept : AllByRecursion (λ (x : Placed). MayBeStamped f x.used) placed)
    (cleared : (d e : ℕ) → entry_at mid d e ≡ cleared_all f d f.site.references (entry_at old d e)) (grown : HaveGrown mid new)
    (come : AllCome f me mid placed new) where
  references : AllByRecursion (IsReference f.arrays) f.site.references
  references = recursion_from_All (IsReference f.arrays) f.site.references accepted.site.references

  own_of : (d e stamp : ℕ) → IsBy f me d e placed (λ x. x.used.stamp ≡ stamp) → Among stamp (stamps_of f d)
  own_of d e stamp b =
      subst (λ s. Among s (stamps_of f d)) b.has
      (subst (λ n. Among b.by.used.stamp (stamps_of f n))
      b.reaches.decomposition (all_among (λ (x : Placed). MayBeStamped f x.used) placed b.by
      kept b.among).own)

  pub keeps_others : KeepsOtherStamps f old new
  keeps_others = record {
    keeps = λ d e stamp h small other found has.
        let mid_still = subst (λ o. IsStill o h.place h.slot stamp) (sym (cleared d e))
        (all_still f d f.site.references references (entry_at old d e) h.place h.slot stamp small other
        (record { held = h; is = found; same_place = refl; same_slot = refl; has = has })) in
        let g = grown d e mid_still.held mid_still.is in
        record {
          held = g.held;
          is = g.is;
          same_place = g.place ∙ mid_still.same_place;
          same_slot = g.slot ∙ mid_still.same_slot;
          has = g.stamps stamp mid_still.has;
        };
    gives_none = λ d e stamp other has.
        let now = of_has (entry_at new d e) stamp has in
        elim ((come d e now.0 now.1).stamps stamp now.2) [
          | inl before ↦ all_less f d f.site.references (entry_at old d e) stamp (subst (λ o. HasStamp o stamp) (cleared d e) before)
          | inr by ↦ absurd (other (own_of d e stamp by))
        ];
  }

  own_gone : (d e stamp : ℕ) → Among stamp (stamps_of f d) → HasStamp (entry_at mid d e) stamp → ⊥
  own_gone d e stamp own has = all_gone f d f.site.references references (entry_at old d e) stamp own
      (subst (λ o. HasStamp o stamp) (cleared d e) has)

  module _ (owners : List (List ℕ)) (uses : List Use) (is : placed ≡ map (placed_at f owners) uses) where
    at_use : (x : Placed) → Among x placed → (u : Use) × Among u uses × (x ≡ placed_at f owners u)
    at_use x a = from_map (placed_at f owners) uses x (subst (Among x) is a)

    pub has_places : HasPlaces owners old → HasPlaces owners new
    has_places before d e h found = elim (come d e h found).place [
      | inl (k, at, same) ↦
          let rest = all_rest f d f.site.references (entry_at old d e) k (sym (cleared d e) ∙ at) in same ∙ rest.place
          ∙ before d e rest.held rest.is
      | inr by ↦
          let u = at_use by.by by.among in
          let place : by.by.place ≡ place_met f owners u.0 = ap (λ (x : Placed). x.place) u.2 in
          let used : by.by.used ≡ u.0 = ap (λ (x : Placed). x.used) u.2 in
          by.has ∙ place ∙ ap (place_met f owners) (sym used)
          ∙ ap (λ n. place_in (list_at owners n) (stands_met f by.by.used)) by.reaches.decomposition
          ∙ ap (place_in (list_at owners d)) by.reaches.element
    ]

    reaching : ℕ → ℕ → Use → Bool
    reaching d stamp u = (decomposition_met f u == d) && (u.stamp == stamp) && not (owner_met f owners u == me)

    module _ (refs : List LocalRef) (found : AllZip (IsFound f me new) placed refs) where
      pub entered_there : (d e stamp : ℕ) → Among stamp (stamps_of f d) → HasStamp (entry_at new d e) stamp
          → Among e (map (stands_met f) (filter (λ u. (decomposition_met f u == d) && (u.stamp == stamp)
          && not (owner_met f owners u == me)) uses))
      entered_there d e stamp own has =
          let now = of_has (entry_at new d e) stamp has in
          elim ((come d e now.0 now.1).stamps stamp now.2) [
            | inl before ↦ absurd (own_gone d e stamp own before)
            | inr by ↦
                let u = at_use by.by by.among in
                let used : by.by.used ≡ u.0 = ap (λ (x : Placed). x.used) u.2 in
                let owner : by.by.place.owner ≡ owner_met f owners u.0 = ap (λ (x : Placed). x.place.owner) u.2 in
                let one : (decomposition_met f u.0 == d) ≡ true = equal_numbers _ d (ap (decomposition_met f) (sym used)
                ∙ by.reaches.decomposition) in
                let two : (u.0.stamp == stamp) ≡ true = equal_numbers _ stamp (ap (λ (v : Use). v.stamp) (sym used) ∙ by.has) in
                let three : not (owner_met f owners u.0 == me) ≡ true = unequal_numbers _ me (λ same. by.reaches.other (owner ∙ same)) in
                let test : ((decomposition_met f u.0 == d) && (u.0.stamp == stamp) && not (owner_met f owners u.0 == me)) ≡ true =
                ap (λ b. b && (u.0.stamp == stamp) && not (owner_met f owners u.0 == me)) one
                ∙ ap (λ b. true && b && not (owner_met f owners u.0 == me)) two ∙ ap (λ b. true && true && b) three in
                subst (λ n. Among n (map (stands_met f)
                (filter (λ u. (decomposition_met f u == d) && (u.stamp == stamp) && not (owner_met f owners u == me)) uses)))
                (ap (stands_met f) (sym used) ∙ by.reaches.element) (among_map (stands_met f) _ u.0 (among_filter _ uses u.0 u.1 test))
          ]

      entry_of : (x : Placed) (r : LocalRef) → (x.place.owner ≡ me → ⊥) → IsFound f me new x r
          → HasStamp (entry_at new (decomposition_met f x.used) (stands_met f x.used)) x.used.stamp
      entry_of x (Here local) other (own, at) = absurd (other own)
      entry_of x (Ghost slot) other (out, (h, at, same, has)) = has_of _ h x.used.stamp at has

      pub there_entered : (d e stamp : ℕ)
          → Among e (map (stands_met f) (filter (λ u. (decomposition_met f u == d) && (u.stamp == stamp)
          && not (owner_met f owners u == me)) uses))
          → HasStamp (entry_at new d e) stamp
      there_entered d e stamp a =
          let m = from_map (stands_met f) _ e a in
          let u = m.0 in
          let p = from_filter (λ u. (decomposition_met f u == d) && (u.stamp == stamp) && not (owner_met f owners u == me)) uses u m.1 in
          let first = both_true ((decomposition_met f u == d) && (u.stamp == stamp)) _ p.1 in
          let second = both_true (decomposition_met f u == d) _ first.0 in
          let x = placed_at f owners u in
          let there : Among x placed = subst (Among x) (sym is) (among_map (placed_at f owners) uses u p.0) in
          let r = zip_among (IsFound f me new) placed refs x found there in
          let here = entry_of x r.0 (not_number (owner_met f owners u) me first.1) r.1 in
          subst (λ n. HasStamp (entry_at new d n) stamp) (sym m.2)
          (subst (λ n. HasStamp (entry_at new n (stands_met f u)) stamp) (number_is _ d second.0)
          (subst (HasStamp (entry_at new (decomposition_met f u) (stands_met f u))) (number_is _ stamp second.1) here))

-- ---- local references and needs

module _ (f : LoopFacts) (me : ℕ) (owners : List (List ℕ)) (new : List Stamps) where
  slot_found : (u : Use) (slot : ℕ) → MayBeStamped f u → IsFound f me new (placed_at f owners u) (Ghost slot)
      → slot_for f (slots_entered f new) u.array u.subscript ≡ Some slot
  slot_found u slot kept (other, (h, at, same, has)) =
      slot_is (stamps_of f (decomposition_met f u)) (entry_at new (decomposition_met f u) (stands_met f u)) h u.stamp at kept.own has
      ∙ ap Some same

  stands_for : (u : Use) (r : LocalRef) → MayBeStamped f u → IsFound f me new (placed_at f owners u) r
      → StandsFor f owners (slots_entered f new) me u r
  stands_for u (Here local) kept h = h
  stands_for u (Ghost slot) kept h = (h.0, slot_found u slot kept h)

  pub all_stand : (uses : List Use) (refs : List LocalRef) → AllByRecursion (MayBeStamped f) uses
      → AllZip (IsFound f me new) (map (placed_at f owners) uses) refs
      → AllZip (StandsFor f owners (slots_entered f new) me) uses refs
  all_stand [] [] kept h = tt
  all_stand [] (r ∷ refs) kept h = h
  all_stand (u ∷ uses) [] kept h = h
  all_stand (u ∷ uses) (r ∷ refs) kept h = (stands_for u r kept.0 h.0, all_stand uses refs kept.1 h.1)

  pub all_need : (uses : List Use) (refs : List LocalRef) → AllByRecursion (MayBeStamped f) uses
      → AllZip (IsFound f me new) (map (placed_at f owners) uses) refs
      → AllZip (IsNeed f owners (slots_entered f new)) (filter (λ u. not (owner_met f owners u == me)) uses)
      (needs_of (map (placed_at f owners) uses) refs)
  all_need [] [] kept h = tt
  all_need [] (r ∷ refs) kept h = absurd h
  all_need (u ∷ uses) [] kept h = absurd h
  all_need (u ∷ uses) (Here local ∷ refs) kept h =
      subst (λ b. AllZip (IsNeed f owners (slots_entered f new)) (cond b (u ∷ filter (λ v. not (owner_met f owners v == me)) uses)
      (filter (λ v. not (owner_met f owners v == me)) uses)) (needs_of (map (placed_at f owners) uses) refs))
      (sym (ap not (equal_numbers (owner_met f owners u) me h.0.0))) (all_need uses refs kept.1 h.1)
  all_need (u ∷ uses) (Ghost slot ∷ refs) kept h =
      subst (λ b. AllZip (IsNeed f owners (slots_entered f new)) (cond b (u ∷ filter (λ v. not (owner_met f owners v == me)) uses)
      (filter (λ v. not (owner_met f owners v == me)) uses)) (need_in (placed_at f owners u) slot
      ∷ needs_of (map (placed_at f owners) uses) refs))
      (sym (unequal_numbers (owner_met f owners u) me h.0.0)) (
        record { role = refl; array = refl; element = refl; place = refl; slot = slot_found u slot kept.0 h.0 },
        all_need uses refs kept.1 h.1,
      )

-- ---- needs are small

small_each : (f : LoopFacts) → IsAccepted f → (placed : List Placed) (refs : List LocalRef)
    → AllByRecursion (λ (x : Placed). MayBeStamped f x.used) placed
    → AllByRecursion (λ (x : Placed). x.place.local < 2 ^ 63) placed → AllByRecursion (λ (n : Need). (n.element < 2 ^ 63)
    × (n.place.local < 2 ^ 63)) (needs_of placed refs)
small_each f accepted [] refs kept locals = tt
small_each f accepted (x ∷ placed) [] kept locals = tt
small_each f accepted (x ∷ placed) (Here local ∷ refs) kept locals = small_each f accepted placed refs kept.1 locals.1
small_each f accepted (x ∷ placed) (Ghost slot ∷ refs) kept locals =
    let s = standing f accepted x.used kept.0.met in
    ((below_limit x.used.subscript s.subscript_first s.subscript_last, locals.0), small_each f accepted placed refs kept.1 locals.1)
  where
    below_limit : (z : ℤ) → pos 0 ≤ℤ z → z ≤ℤ pos 1048576 → natural z < 2 ^ 63
    below_limit (pos n) low high = omega (arith, ints, high)
    below_limit (negsuc n) low high = absurd (omega (arith, ints, low))

pub small_needs : (f : LoopFacts) → IsAccepted f → (placed : List Placed) (refs : List LocalRef)
    → AllByRecursion (λ (x : Placed). MayBeStamped f x.used) placed
    → AllByRecursion (λ (x : Placed). x.place.local < 2 ^ 63) placed → All (λ (n : Need). n.element < 2 ^ 63) (needs_of placed refs)
    × All (λ (n : Need). n.place.local < 2 ^ 63) (needs_of placed refs)
small_needs f accepted placed refs kept locals =
    let each = small_each f accepted placed refs kept locals in (
      All-from_recursion (λ (n : Need). n.element < 2 ^ 63) (needs_of placed refs) (all_weaker _ (λ (n : Need). n.element < 2 ^ 63)
          (λ n h. h.0) (needs_of placed refs) each),
      All-from_recursion (λ (n : Need). n.place.local < 2 ^ 63) (needs_of placed refs)
          (all_weaker _ (λ (n : Need). n.place.local < 2 ^ 63) (λ n h. h.1) (needs_of placed refs) each),
    )
