-- A slot that is taken for a new entry.
use Rattle.std.proofs.Common.{◌≡◌, ℕ, suc, ◌+◌, ◌-◌, ◌<◌, false, List, [], ◌∷◌, ◌++◌, length, take, get_or, Some, refl, ap, sym, subst, ◌∙◌}
use Rattle.std.proofs.Common.{append_assoc, arith, length-append, max}
use Rattle.std.specs.Prelude.{nat_eq, IsPermutation, slice_get, ◌≢◌}
use Rattle.std.specs.List.{AllByRecursion, IsDistinct}
use Rattle.std.proofs.lemmas.Option.{get_or_from_slice_get, slice_get_within, slice_get-get_or, unwrap_or-slice_get}
use Rattle.std.proofs.lemmas.List.{take_more, take_all, append-nil, length-set, get_or-set_other, get_or-set_same, get_or_append_left}
use Rattle.std.proofs.Math.Seq.{get_or-append_seam}
use Rattle.std.proofs.Math.ListN.{set}
use Rattle.std.proofs.lemmas.List.Sorted.{IsPermutation-trans, IsPermutation-append_left, IsPermutation-append_right}
use Rattle.std.proofs.lemmas.List.Sorted.{IsPermutation-to_front}
use Rattle.chaos_hash.specs.declared.held.Held.{Held}
use Rattle.chaos_hash.specs.Slots.{Slots, took, held_by, next_slot}
use Rattle.chaos_hash.specs.Stamps.{IsKept, slots_of, slots_below}
use Rattle.chaos_hash.proofs.Lists.{append-all, weaker-all, both-all, mapped-all, first-below, distinct-both, apart_from_last, not_equal}
use Rattle.chaos_hash.proofs.Lists.{equal_not}

pub slots-push : (es : List (ℕ × Held)) (k : ℕ) (v : Held) → slots_of (es ++ (k, v) ∷ []) ≡ slots_of es ++ v.slot ∷ []
slots-push [] k v = refl
slots-push (e ∷ es) k v = ap (λ ss. e.1.slot ∷ ss) (slots-push es k v)

last_split : (free : List ℕ) (d : ℕ) → 0 < length free → free ≡ take (length free - 1) free ++ get_or free (length free - 1) d ∷ []
last_split free d some =
    let e : length free - 1 + 1 ≡ length free = omega arith in
    sym (take_all (length free) free (omega arith)) ∙ ap (λ n. take n free) (sym e) ∙ take_more free (length free - 1) d (omega arith)

module _ (es : List (ℕ × Held)) (hs : List ℕ) where
  -- no entry has the slot that is taken next
  pub fresh-slots : (free : List ℕ) → IsPermutation (slots_below (length hs)) (slots_of es ++ free)
      → AllByRecursion (λ s. nat_eq s (next_slot (record { holders = hs; free = free })) ≡ false) (slots_of es)
  fresh-slots [] h = weaker-all (λ s. s < length hs) (λ s. nat_eq s (length hs) ≡ false)
      (λ s lt. not_equal s (length hs) (λ e. omega (arith, e, lt))) (slots_of es) (first-below (length hs) (slots_of es) [] h)
  fresh-slots (s ∷ more) h =
      let free = s ∷ more in
      let last = get_or free (length free - 1) (length hs) in
      let split : free ≡ take (length free - 1) free ++ last ∷ [] = last_split free (length hs) (omega arith) in
      let all = apart_from_last (slots_of es) (take (length free - 1) free) last (subst (λ f. IsDistinct nat_eq (slots_of es ++ f)) split
      (distinct-both (length hs) (slots_of es) free h)) in
      subst (λ x. AllByRecursion (λ y. nat_eq y x ≡ false) (slots_of es)) (sym (unwrap_or-slice_get free (length free - 1) (length hs))) all

  pub taken-slots : (free : List ℕ) (k : ℕ) (v : Held) → IsPermutation (slots_below (length hs)) (slots_of es ++ free)
      → v.slot ≡ next_slot (record { holders = hs; free = free })
      → IsPermutation (slots_below (length (held_by free hs k))) (slots_of (es ++ (k, v) ∷ []) ++ take (length free - 1) free)
  taken-slots [] k v h at =
      let n = length hs in
      let count : length (hs ++ k ∷ []) ≡ suc n = length-append hs (k ∷ []) ∙ (let e : n + 1 ≡ suc n = omega arith in e) in
      let grown = IsPermutation-append_left (n ∷ []) (slots_below n) (slots_of es ++ []) h in
      let same : (slots_of es ++ []) ++ n ∷ [] ≡ slots_of (es ++ (k, v) ∷ []) ++ [] =
      ap (λ xs. xs ++ n ∷ []) (append-nil (slots_of es)) ∙ ap (λ s. slots_of es ++ s ∷ []) (sym at) ∙ sym (slots-push es k v)
      ∙ sym (append-nil (slots_of (es ++ (k, v) ∷ []))) in
      subst (λ m. IsPermutation (slots_below m) (slots_of (es ++ (k, v) ∷ []) ++ [])) (sym count)
      (subst (λ ys. IsPermutation (slots_below n ++ n ∷ []) ys) same grown)
  taken-slots (s ∷ more) k v h at =
      let free = s ∷ more in
      let rest = take (length free - 1) free in
      let last = get_or free (length free - 1) (length hs) in
      let split : free ≡ rest ++ last ∷ [] = last_split free (length hs) (omega arith) in
      let is_last : v.slot ≡ last = at ∙ unwrap_or-slice_get free (length free - 1) (length hs) in
      let moved = IsPermutation-append_right (slots_of es) (rest ++ last ∷ []) (last ∷ rest) (IsPermutation-to_front rest last) in
      let same : slots_of es ++ (last ∷ rest) ≡ slots_of (es ++ (k, v) ∷ []) ++ rest =
      sym (append_assoc (slots_of es) (last ∷ []) rest) ∙ ap (λ s. (slots_of es ++ s ∷ []) ++ rest) (sym is_last)
      ∙ ap (λ ss. ss ++ rest) (sym (slots-push es k v)) in
      let all = IsPermutation-trans _ _ _ (subst (λ f. IsPermutation (slots_below (length hs)) (slots_of es ++ f)) split h)
      (subst (λ ys. IsPermutation (slots_of es ++ (rest ++ last ∷ [])) ys) same moved) in
      subst (λ m. IsPermutation (slots_below m) (slots_of (es ++ (k, v) ∷ []) ++ rest)) (sym (length-set hs _ k)) all

  -- the other slots keep their holders
  pub other-holder : (free : List ℕ) (k s x : ℕ) → s ≢ next_slot (record { holders = hs; free = free }) → slice_get hs s ≡ Some x
      → slice_get (held_by free hs k) s ≡ Some x
  other-holder [] k s x other e =
      let lt = slice_get_within hs s x e in
      let lt' : s < length (hs ++ k ∷ []) = omega (arith, lt, length-append hs (k ∷ [])) in
      slice_get-get_or (hs ++ k ∷ []) s x lt' ∙ ap (λ y. Some y) (get_or_append_left hs (k ∷ []) x s lt ∙ get_or_from_slice_get hs s x x e)
  other-holder (f ∷ more) k s x other e =
      let at = next_slot (record { holders = hs; free = f ∷ more }) in
      let lt = slice_get_within hs s x e in
      let lt' : s < length (set hs at k) = subst (λ n. s < n) (sym (length-set hs at k)) lt in
      slice_get-get_or (set hs at k) s x lt' ∙ ap (λ y. Some y) (get_or-set_other hs at s k x other ∙ get_or_from_slice_get hs s x x e)

  pub own-holder : (free : List ℕ) (k : ℕ) → next_slot (record { holders = hs; free = free }) < length (held_by free hs k)
      → slice_get (held_by free hs k) (next_slot (record { holders = hs; free = free })) ≡ Some k
  own-holder [] k lt = slice_get-get_or (hs ++ k ∷ []) (length hs) k lt ∙ ap (λ y. Some y) (get_or-append_seam hs k [] k)
  own-holder (f ∷ more) k lt =
      let at = next_slot (record { holders = hs; free = f ∷ more }) in
      let lt' : at < length hs = subst (λ n. at < n) (length-set hs at k) lt in
      slice_get-get_or (set hs at k) at k lt ∙ ap (λ y. Some y) (get_or-set_same hs at k k lt')

pub fresh-kept : (es : List (ℕ × Held)) (p : Slots) → IsKept es p → AllByRecursion (λ (e : ℕ × Held). e.1.slot ≢ next_slot p) es
fresh-kept es p kept =
    weaker-all (λ (e : ℕ × Held). nat_eq e.1.slot (next_slot p) ≡ false) (λ (e : ℕ × Held). e.1.slot ≢ next_slot p)
    (λ e h. equal_not e.1.slot (next_slot p) h) es
    (mapped-all (λ s. nat_eq s (next_slot p) ≡ false) (λ (e : ℕ × Held). e.1.slot) es (fresh-slots es p.holders p.free kept.slots))

still_few : (hs free : List ℕ) (k : ℕ) → length hs < 4294967296 → (free ≡ [] → length hs < 4294967295) → length (held_by free hs k)
    < 4294967296
still_few hs [] k now room = let lt = room refl in omega (arith, lt, length-append hs (k ∷ []))
still_few hs (f ∷ free) k now room = subst (λ n. n < 4294967296) (sym (length-set hs _ k)) now

pub peak-taken : (hs free : List ℕ) (k n : ℕ) → n + length free ≡ length hs → length (held_by free hs k) ≡ max (length hs) (n + 1)
peak-taken hs [] k n e = omega (arith, e, length-append hs (k ∷ []))
peak-taken hs (f ∷ free) k n e = length-set hs _ k ∙ omega (arith, e)

pub kept-taken : (es : List (ℕ × Held)) (p : Slots) (k : ℕ) (v : Held) → IsKept es p → (p.free ≡ [] → length p.holders < 4294967295)
    → v.slot ≡ next_slot p → v.mask ≢ 0
    → IsKept (es ++ (k, v) ∷ []) (took p k)
kept-taken es p k v kept few at some =
    let slots = taken-slots es p.holders p.free k v kept.slots at in
    let below = first-below _ (slots_of (es ++ (k, v) ∷ [])) (take (length p.free - 1) p.free) slots in
    let lt : v.slot < length (held_by p.free p.holders k) = last_below es k v below in
    record {
      slots = slots;
      holders = append-all (λ (e : ℕ × Held). slice_get (held_by p.free p.holders k) e.1.slot ≡ Some e.0) es ((k, v) ∷ [])
          (both-all (λ (e : ℕ × Held). e.1.slot ≢ next_slot p) (λ (e : ℕ × Held). slice_get p.holders e.1.slot ≡ Some e.0)
          (λ (e : ℕ × Held). slice_get (held_by p.free p.holders k) e.1.slot ≡ Some e.0)
          (λ e other h. other-holder es p.holders p.free k e.1.slot e.0 other h) es (fresh-kept es p kept) kept.holders) (
            ap (slice_get (held_by p.free p.holders k)) at
                ∙ own-holder es p.holders p.free k (subst (λ s. s < length (held_by p.free p.holders k)) at lt),
            tt,
          );
      few = still_few p.holders p.free k kept.few few;
      masks = append-all (λ (e : ℕ × Held). e.1.mask ≢ 0) es ((k, v) ∷ []) kept.masks (some, tt);
    }
  where
    last_below : (es : List (ℕ × Held)) (k : ℕ) (v : Held) {n : ℕ} → AllByRecursion (λ s. s < n) (slots_of (es ++ (k, v) ∷ [])) → v.slot < n
    last_below [] k v h = h.0
    last_below (e ∷ es) k v h = last_below es k v h.1
