-- The slot of an element whose entry has one of some stamps.
use Rattle.std.proofs.Common.{◌≡◌, ℕ, Bool, true, false, not, ◌||◌, ◌==◌, List, [], ◌∷◌, Option, Some, None, refl, ap, sym, subst, ◌∙◌, inl}
use Rattle.std.proofs.Common.{inr, true≢false}
use Rattle.std.specs.Prelude.{if◌then◌else◌}
use Rattle.std.specs.Int.{bit_at}
use Rattle.std.specs.List.{list_any}
use Rattle.std.proofs.lemmas.Bool.Decides.{eqb_tells}
use Rattle.chaos_hash.specs.Stamps.{has_stamp}
use Rattle.chaos_hash.specs.declared.held.Held.{Held}
use Rattle.fd_program.specs.ListLaws.{Among}
use Rattle.plan_tables.specs.Tables.{HasStamp, slot_by}

pub equal_numbers : (n m : ℕ) → n ≡ m → (n == m) ≡ true
equal_numbers n m e = elim (eqb_tells n m) [ inl same ↦ same.0 | inr other ↦ absurd (other.1 e) ]

pub unequal_numbers : (n m : ℕ) → (n ≡ m → ⊥) → not (n == m) ≡ true
unequal_numbers n m h = elim (eqb_tells n m) [ inl same ↦ absurd (h same.1) | inr other ↦ ap not other.0 ]

pub not_number : (n m : ℕ) → not (n == m) ≡ true → n ≡ m → ⊥
not_number n m e same = by (n == m) (equal_numbers n m same) e
  where
    by : (b : Bool) → b ≡ true → not b ≡ true → ⊥
    by true h k = true≢false (sym k)
    by false h k = true≢false (sym h)

any_stamp : (mask : ℕ) (stamps : List ℕ) (stamp : ℕ) → Among stamp stamps → bit_at mask stamp ≡ 1 → list_any (has_stamp mask) stamps ≡ true
any_stamp mask [] stamp a has = absurd a
any_stamp mask (s ∷ stamps) stamp (inl e) has = ap (λ b. b || list_any (has_stamp mask) stamps)
    (equal_numbers (bit_at mask s) 1 (ap (bit_at mask) (sym e) ∙ has))
any_stamp mask (s ∷ stamps) stamp (inr a) has = by (has_stamp mask s) (any_stamp mask stamps stamp a has)
  where
    by : (b : Bool) → list_any (has_stamp mask) stamps ≡ true → (b || list_any (has_stamp mask) stamps) ≡ true
    by true e = refl
    by false e = e

pub slot_is : (stamps : List ℕ) (o : Option Held) (h : Held) (stamp : ℕ) → o ≡ Some h → Among stamp stamps → bit_at h.mask stamp ≡ 1
    → slot_by stamps o ≡ Some h.slot
slot_is stamps o h stamp is a has = ap (slot_by stamps) is ∙ ap (λ b. if b then Some h.slot else None) (any_stamp h.mask stamps stamp a has)

pub has_of : (o : Option Held) (h : Held) (stamp : ℕ) → o ≡ Some h → bit_at h.mask stamp ≡ 1 → HasStamp o stamp
has_of o h stamp is has = subst (λ k. HasStamp k stamp) (sym is) has

pub of_has : (o : Option Held) (stamp : ℕ) → HasStamp o stamp → (h : Held) × (o ≡ Some h) × (bit_at h.mask stamp ≡ 1)
of_has None stamp h = absurd h
of_has (Some k) stamp h = (k, refl, h)
