-- The entries without the loop's stamps, and what stays of them.
use Rattle.std.proofs.Common.{◌≡◌, ℕ, ◌<◌, Bool, true, false, cond, not, ◌&&◌, ◌==◌, List, [], ◌∷◌, map, filter, Option, Some, None, refl}
use Rattle.std.proofs.Common.{ap, sym, subst, ◌∙◌, arith, inl, inr}
use Rattle.std.specs.Prelude.{if◌then◌else◌}
use Rattle.std.specs.Int.{w128, bit_at, bit_not}
use Rattle.std.specs.List.{AllByRecursion}
use Rattle.std.proofs.lemmas.Bool.Decides.{eqb_tells}
use Rattle.std.proofs.lemmas.Nat.Bits.{bit_at_and, bit_at_clear_same, bit_at-lt}
use Rattle.std.proofs.lemmas.Option.{none-some, same_Some}
use Rattle.fd_words.specs.declared.place.Place.{Place}
use Rattle.chaos_hash.proofs.Staying.{stays-cleared}
use Rattle.chaos_hash.specs.Laws.{IsStill}
use Rattle.chaos_hash.specs.Stamps.{cleared, less, lives, mask_of}
use Rattle.chaos_hash.specs.declared.held.Held.{Held}
use Rattle.plan_tables.specs.Tables.{HasStamp, cleared_by, cleared_all}
use Rattle.fd_program.specs.Checks.{IsReference}
use Rattle.fd_program.specs.ListLaws.{Among}
use Rattle.fd_program.specs.Places.{decomposition_of}
use Rattle.fd_words.specs.Roles.{is_index}
use Rattle.fd_program.specs.declared.loop_facts.LoopFacts.{LoopFacts}
use Rattle.fd_program.specs.declared.reference.Reference.{Reference}

-- ---- one stamp

cleared_less : (mask stamp : ℕ) (o : Option Held) → HasStamp (cleared mask o) stamp → HasStamp o stamp
cleared_less mask stamp None h = h
cleared_less mask stamp (Some k) h = by (lives (less mask k)) h
  where
    by : (b : Bool) → HasStamp (if b then Some (less mask k) else None) stamp → bit_at k.mask stamp ≡ 1
    by false h = absurd h
    by true h =
        let parts = bit_at_and k.mask (bit_not w128 mask) stamp in
        let low = bit_at-lt k.mask stamp in
        omega (arith, parts, low, h)

cleared_gone : (stamp : ℕ) (o : Option Held) → stamp < 128 → HasStamp (cleared (mask_of stamp) o) stamp → ⊥
cleared_gone stamp None small h = h
cleared_gone stamp (Some k) small h = by (lives (less (mask_of stamp) k)) h
  where
    by : (b : Bool) → HasStamp (if b then Some (less (mask_of stamp) k) else None) stamp → ⊥
    by false h = h
    by true h =
        let none = bit_at_clear_same w128 k.mask stamp small in
        absurd (omega (arith, none, h))

-- what is left of an entry has its place and its slot
pub record IsRest (o : Option Held) (k : Held) : Type 0 where
  pub held : Held
  pub is : o ≡ Some held
  pub place : k.place ≡ held.place

cleared_rest : (mask : ℕ) (o : Option Held) (k : Held) → cleared mask o ≡ Some k → IsRest o k
cleared_rest mask None k e = absurd (none-some k e)
cleared_rest mask (Some h) k e = by (lives (less mask h)) e
  where
    by : (b : Bool) → (if b then Some (less mask h) else None) ≡ Some k → IsRest (Some h) k
    by false e = absurd (none-some k e)
    by true e = record { held = h; is = refl; place = ap (λ x. x.place) (sym (same_Some _ _ e)) }

-- ---- those of references

module _ (f : LoopFacts) (d : ℕ) where
  abbrev is_own : Reference → Bool
  is_own r = not (is_index r.role) && (d == decomposition_of f.arrays r.array)

  by_less : (r : Reference) (o : Option Held) (stamp : ℕ) → HasStamp (cleared_by f d r o) stamp → HasStamp o stamp
  by_less r o stamp h = by (is_own r) h
    where
      by : (b : Bool) → HasStamp (if b then cleared (mask_of r.stamp) o else o) stamp → HasStamp o stamp
      by true h = cleared_less (mask_of r.stamp) stamp o h
      by false h = h

  pub all_less : (rs : List Reference) (o : Option Held) (stamp : ℕ) → HasStamp (cleared_all f d rs o) stamp → HasStamp o stamp
  all_less [] o stamp h = h
  all_less (r ∷ rs) o stamp h = by_less r o stamp (all_less rs (cleared_by f d r o) stamp h)

  by_rest : (r : Reference) (o : Option Held) (k : Held) → cleared_by f d r o ≡ Some k → IsRest o k
  by_rest r o k e = by (is_own r) e
    where
      by : (b : Bool) → (if b then cleared (mask_of r.stamp) o else o) ≡ Some k → IsRest o k
      by true e = cleared_rest (mask_of r.stamp) o k e
      by false e = record { held = k; is = e; place = refl }

  pub all_rest : (rs : List Reference) (o : Option Held) (k : Held) → cleared_all f d rs o ≡ Some k → IsRest o k
  all_rest [] o k e = record { held = k; is = e; place = refl }
  all_rest (r ∷ rs) o k e =
      let rest = all_rest rs (cleared_by f d r o) k e in
      let first = by_rest r o rest.held rest.is in
      record { held = first.held; is = first.is; place = rest.place ∙ first.place }

  turned : (r : Reference) → (not (is_index r.role) && (decomposition_of f.arrays r.array == d)) ≡ is_own r
  turned r = ap (λ b. not (is_index r.role) && b) (both (decomposition_of f.arrays r.array) d)
    where
      both : (n m : ℕ) → (n == m) ≡ (m == n)
      both n m = elim (eqb_tells n m) [
        | inl same ↦ same.0 ∙ sym (elim (eqb_tells m n) [ inl also ↦ also.0 | inr other ↦ absurd (other.1 (sym same.1)) ])
        | inr other ↦ other.0 ∙ sym (elim (eqb_tells m n) [ inl also ↦ absurd (other.1 (sym also.1)) | inr more ↦ more.0 ])
      ]

  abbrev own_among : List Reference → List Reference
  own_among rs = filter (λ (r : Reference). not (is_index r.role) && (decomposition_of f.arrays r.array == d)) rs

  abbrev stamps : List Reference → List ℕ
  stamps rs = map (λ (r : Reference). r.stamp) (own_among rs)

  -- none has one of the loop's stamps any more
  pub all_gone : (rs : List Reference) → AllByRecursion (IsReference f.arrays) rs → (o : Option Held) (stamp : ℕ)
      → Among stamp (stamps rs) → HasStamp (cleared_all f d rs o) stamp → ⊥
  all_gone [] facts o stamp a h = absurd a
  all_gone (r ∷ rs) facts o stamp a h = by (is_own r) refl (λ b. all_gone rs facts.1 (cleared_by f d r o) stamp b h)
      (subst (λ b. Among stamp (map (λ (q : Reference). q.stamp) (cond b (r ∷ (own_among rs)) (own_among rs)))) (turned r) a)
    where
      by : (b : Bool) → is_own r ≡ b → (Among stamp (stamps rs) → ⊥)
          → Among stamp (map (λ (q : Reference). q.stamp) (cond b (r ∷ (own_among rs)) (own_among rs))) → ⊥
      by false e rest a = rest a
      by true e rest (inr a) = rest a
      by true e rest (inl same) =
          let here : HasStamp (cleared_by f d r o) stamp = all_less rs (cleared_by f d r o) stamp h in
          let there : HasStamp (cleared (mask_of r.stamp) o) stamp =
          subst (λ b. HasStamp (if b then cleared (mask_of r.stamp) o else o) stamp) e here in
          cleared_gone r.stamp o facts.0.stamp (subst (HasStamp (cleared (mask_of r.stamp) o)) same there)

  still_further : (o : Option Held) (place : Place) (slot stamp : ℕ) (g : Option Held → Option Held) → IsStill o place slot stamp
      → ((h : Held) → bit_at h.mask stamp ≡ 1 → IsStill (g (Some h)) h.place h.slot stamp) → IsStill (g o) place slot stamp
  still_further o place slot stamp g s step =
      let t = step s.held s.has in
      record {
        held = t.held;
        is = ap g s.is ∙ t.is;
        same_place = t.same_place ∙ s.same_place;
        same_slot = t.same_slot ∙ s.same_slot;
        has = t.has;
      }

  by_still : (r : Reference) → IsReference f.arrays r → (h : Held) (stamp : ℕ) → stamp < 128 → (is_own r ≡ true → r.stamp ≡ stamp → ⊥)
      → bit_at h.mask stamp ≡ 1
      → IsStill (cleared_by f d r (Some h)) h.place h.slot stamp
  by_still r facts h stamp small apart has = by (is_own r) refl
    where
      by : (b : Bool) → is_own r ≡ b → IsStill (if b then cleared (mask_of r.stamp) (Some h) else Some h) h.place h.slot stamp
      by true e = stays-cleared h stamp r.stamp small facts.stamp (λ same. apart e (sym same)) has
      by false e = record { held = h; is = refl; same_place = refl; same_slot = refl; has = has }

  -- each other stamp is still there
  pub all_still : (rs : List Reference) → AllByRecursion (IsReference f.arrays) rs → (o : Option Held) (place : Place) (slot stamp : ℕ)
      → stamp < 128 → (Among stamp (stamps rs) → ⊥)
      → IsStill o place slot stamp → IsStill (cleared_all f d rs o) place slot stamp
  all_still [] facts o place slot stamp small other s = s
  all_still (r ∷ rs) facts o place slot stamp small other s =
      all_still rs facts.1 (cleared_by f d r o) place slot stamp small (λ a. other (further a))
      (still_further o place slot stamp (cleared_by f d r) s (λ h has. by_still r facts.0 h stamp small (λ e same. other (here e same))
      has))
    where
      here : is_own r ≡ true → r.stamp ≡ stamp → Among stamp (stamps (r ∷ rs))
      here e same = subst (λ b. Among stamp (map (λ (q : Reference). q.stamp) (cond b (r ∷ (own_among rs)) (own_among rs))))
          (sym (turned r ∙ e)) (inl (sym same))

      further : Among stamp (stamps rs) → Among stamp (stamps (r ∷ rs))
      further a = by (not (is_index r.role) && (decomposition_of f.arrays r.array == d)) a
        where
          by : (b : Bool) → Among stamp (map (λ (q : Reference). q.stamp) (own_among rs))
              → Among stamp (map (λ (q : Reference). q.stamp) (cond b (r ∷ (own_among rs)) (own_among rs)))
          by true a = inr a
          by false a = a
