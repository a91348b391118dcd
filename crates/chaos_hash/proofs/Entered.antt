-- An element that is entered: what the table is seen as.
use Rattle.std.proofs.Common.{◌≡◌, ℕ, ◌<◌, max, true, false, cond, List, [], ◌∷◌, ◌++◌, length, Option, Some, None, refl, ap, sym, subst}
use Rattle.std.proofs.Common.{◌∙◌, arith, length-append}
use Rattle.std.specs.Prelude.{nat_eq, slice_get, unwrap_or, ◌≢◌, if◌then◌else◌, MatchOption}
use Rattle.std.specs.List.{AllByRecursion, IsDistinct}
use Rattle.std.specs.Map.{lookup, keys_of, update}
use Rattle.std.specs.Ordering.{nat_cmp}
use Rattle.std.specs.FinMap as fin
use Rattle.std.proofs.lemmas.Option.{slice_get_within}
use Rattle.indexmap.specs.IndexMap.{insert_entry}
use Rattle.fd_words.specs.declared.Place.{Place}
use Rattle.chaos_hash.specs.declared.held.Held.{Held}
use Rattle.chaos_hash.specs.Slots.{Slots, held_by, next_slot}
use Rattle.chaos_hash.specs.Stamps.{Stamps, IsKept, IsFree, IsStamped, entered}
use Rattle.chaos_hash.proofs.Kept.{found-all, found-at, kept-count}
use Rattle.chaos_hash.proofs.Taken.{fresh-kept, peak-taken}
use Rattle.chaos_hash.proofs.Views.{seen, seen-put, seen-len}

not_None : {X : Type 0} (x : X) → Some x ≡ None → ⊥
not_None x e = subst (λ o. elim o as (λ _. Type 0) [ None ↦ ⊥ | Some y ↦ Unit {0} ]) e tt

pub inserted-new : (es : List (ℕ × Held)) (k : ℕ) (v : Held) → lookup (nat_eq k) es ≡ None → insert_entry nat_eq es k v ≡ es ++ (k, v) ∷ []
inserted-new [] k v none = refl
inserted-new (e ∷ es) k v none =
    elim (nat_eq k e.0) as (λ b. cond b (Some e.1) (lookup (nat_eq k) es) ≡ None
    → (if b then (e.0, v) ∷ es else e ∷ insert_entry nat_eq es k v) ≡ e ∷ (es ++ (k, v) ∷ [])) [
      | true ↦ λ n. absurd (not_None e.1 n)
      | false ↦ λ n. ap (λ t. e ∷ t) (inserted-new es k v n)
    ] none

module _ (es : List (ℕ × Held)) (p : Slots) (m : Stamps)
    (view : ◌≡◌ {A = Stamps} (record { held = fin.from_entries {R = nat_cmp} es; peak = length p.holders }) m) where
  pub got : (q : ℕ) → fin.get m.held q ≡ lookup (nat_eq q) es
  got q = ap (λ (s : Stamps). fin.get s.held q) (sym view) ∙ seen es q

  pub entered-held : (more : List (ℕ × Held)) (k : ℕ) (v : Held) (place : Place) (stamp slot : ℕ) (o : Option Held)
      → lookup (nat_eq k) es ≡ o → v ≡ entered o place stamp slot
      → ((q : ℕ) → lookup (nat_eq q) more ≡ update nat_eq (λ x. lookup (nat_eq x) es) k (Some v) q)
      → fin.from_entries {R = nat_cmp} more ≡ fin.insert m.held k (entered (fin.get m.held k) place stamp slot)
  entered-held more k v place stamp slot o found is updates =
      seen-put es more k v updates ∙ ap (λ (s : Stamps). fin.insert s.held k v) view
      ∙ ap (fin.insert m.held k) (is ∙ ap (λ o. entered o place stamp slot) (sym (got k ∙ found)))

  pub slot-again : (k : ℕ) (h : Held) → lookup (nat_eq k) es ≡ Some h → MatchOption (fin.get m.held k) (IsFree m.held h.slot)
      (λ x. h.slot ≡ x.slot)
  slot-again k h found = subst (λ o. MatchOption o (IsFree m.held h.slot) (λ x. h.slot ≡ x.slot)) (sym (got k ∙ found)) refl

  pub below-again : (k : ℕ) (h : Held) → lookup (nat_eq k) es ≡ Some h → IsKept es p → h.slot < length p.holders
  below-again k h found kept =
      let at = found-all (λ e. slice_get p.holders e.1.slot ≡ Some e.0) es k h found kept.holders in
      slice_get_within p.holders h.slot at.0 at.1

  pub peak-again : (more : List (ℕ × Held)) → IsDistinct nat_eq (keys_of more) → IsKept more p
      → length p.holders ≡ max m.peak (fin.len (fin.from_entries {R = nat_cmp} more))
  peak-again more unique kept =
      let same = ap (λ (s : Stamps). s.peak) view in
      let count = kept-count more p kept in
      let len = seen-len more unique in
      omega (arith, same, count, len)

  free-when : (slot : ℕ) → AllByRecursion (λ (e : ℕ × Held). e.1.slot ≢ slot) es → IsFree m.held slot
  free-when slot all q h found = (found-all (λ (e : ℕ × Held). e.1.slot ≢ slot) es q h (sym (got q) ∙ found) all).1

  pub slot-fresh : (k slot : ℕ) → lookup (nat_eq k) es ≡ None → slot ≡ next_slot p → IsKept es p
      → MatchOption (fin.get m.held k) (IsFree m.held slot) (λ x. slot ≡ x.slot)
  slot-fresh k slot none at kept =
      subst (λ o. MatchOption o (IsFree m.held slot) (λ x. slot ≡ x.slot)) (sym (got k ∙ none))
      (subst (λ s. IsFree m.held s) (sym at) (free-when (next_slot p) (fresh-kept es p kept)))

  pub peak-fresh : (more : List (ℕ × Held)) (k : ℕ) (v : Held) → IsDistinct nat_eq (keys_of more) → more ≡ es ++ (k, v) ∷ [] → IsKept es p
      → length (held_by p.free p.holders k) ≡ max m.peak (fin.len (fin.from_entries {R = nat_cmp} more))
  peak-fresh more k v unique is kept =
      let same = ap (λ (s : Stamps). s.peak) view in
      let count = kept-count es p kept in
      let len = seen-len more unique in
      let longer = ap length is ∙ length-append es ((k, v) ∷ []) in
      peak-taken p.holders p.free k (length es) count ∙ omega (arith, same, len, longer)

  pub few-fresh : IsDistinct nat_eq (keys_of es) → IsKept es p → fin.len m.held < 4294967295 → p.free ≡ [] → length p.holders < 4294967295
  few-fresh unique kept few none =
      let count = kept-count es p kept in
      let len = seen-len es unique in
      let same = ap (λ (s : Stamps). fin.len s.held) view in
      let nothing = ap length none in
      omega (arith, count, len, same, nothing, few)

  -- the slot that an element holds tells the element
  same-holder : (q slot : ℕ) (h : Held) → IsKept es p → fin.get m.held q ≡ Some h → h.slot ≡ slot → slice_get p.holders slot ≡ Some q
  same-holder q slot h kept found at =
      ap (slice_get p.holders) (sym at) ∙ found-at (λ e. slice_get p.holders e.1.slot ≡ Some e.0) es q h (sym (got q) ∙ found) kept.holders

  pub free-unheld : (slot : ℕ) → IsKept es p → slice_get p.holders slot ≡ None → IsFree m.held slot
  free-unheld slot kept none q h found at = not_None q (sym (same-holder q slot h kept found at) ∙ none)

  same_Some : {X : Type 0} (x y : X) → Some x ≡ Some y → x ≡ y
  same_Some x y e = ap (λ o. unwrap_or o x) e

  pub free-dead : (slot element : ℕ) → IsKept es p → slice_get p.holders slot ≡ Some element → lookup (nat_eq element) es ≡ None
      → IsFree m.held slot
  free-dead slot element kept holds none q h found at =
      let same : q ≡ element = same_Some q element (sym (same-holder q slot h kept found at) ∙ holds) in
      not_None h (sym found ∙ ap (fin.get m.held) same ∙ got element ∙ none)

  pub free-other : (slot element : ℕ) (held : Held) → IsKept es p → slice_get p.holders slot ≡ Some element → lookup (nat_eq element) es
      ≡ Some held → held.slot ≢ slot → IsFree m.held slot
  free-other slot element held kept holds here other q h found at =
      let same : q ≡ element = same_Some q element (sym (same-holder q slot h kept found at) ∙ holds) in
      let it : h ≡ held = same_Some h held (sym found ∙ ap (fin.get m.held) same ∙ got element ∙ here) in
      other (sym (ap (λ (x : Held). x.slot) it) ∙ at)

  pub facts : IsDistinct nat_eq (keys_of es) → IsKept es p → IsStamped m
  facts unique kept =
      let peak = ap (λ (s : Stamps). s.peak) view in
      let count = kept-count es p kept in
      let len = seen-len es unique in
      let same = ap (λ (s : Stamps). fin.len s.held) view in
      record {
        below = λ q h found. subst (λ n. h.slot < n) peak (below-again q h (sym (got q) ∙ found) kept);
        apart = λ q r h k found there at. same_Some q r (sym (same-holder q k.slot h kept found at)
            ∙ same-holder r k.slot k kept there refl);
        stamped = λ q h found. found-at (λ e. e.1.mask ≢ 0) es q h (sym (got q) ∙ found) kept.masks;
        few = omega (arith, peak, count, len, same);
      }
