-- What the table keeps.
use Rattle.std.proofs.Common.{◌≡◌, ℕ, ◌+◌, ◌<◌, true, false, cond, List, [], ◌∷◌, ◌++◌, length, Some, None, refl, ap, sym, subst, ◌∙◌}
use Rattle.std.proofs.Common.{append_assoc, arith, true≢false}
use Rattle.std.specs.Prelude.{nat_eq, IsPermutation, slice_get, unwrap_or, ◌≢◌, not, if◌then◌else◌}
use Rattle.std.specs.List.{AllByRecursion}
use Rattle.std.specs.Map.{lookup}
use Rattle.indexmap.specs.IndexMap.{insert_entry}
use Rattle.std.proofs.lemmas.List.Sorted.{IsPermutation-trans, IsPermutation-refl, IsPermutation-sym, IsPermutation-cons}
use Rattle.std.proofs.lemmas.List.Sorted.{IsPermutation-middle, IsPermutation-append_left, IsPermutation-append_right}
use Rattle.std.proofs.lemmas.List.Sorted.{IsPermutation-append_comm}
use Rattle.chaos_hash.specs.declared.held.Held.{Held}
use Rattle.chaos_hash.specs.Slots.{Slots, given_all, InRange}
use Rattle.chaos_hash.specs.Stamps.{IsKept, slots_of, slots_below, slots_dying, cleared_list, less, lives}
use Rattle.chaos_hash.proofs.Lists.{second-below, count-below}
use Rattle.std.proofs.lemmas.List.Elements.{All-from_recursion}
use Rattle.std.proofs.lemmas.List.{length-map}
use Rattle.std.specs.Cmp.{unsigned_Decides}

not_None : {X : Type 0} (x : X) → None ≡ Some x → ⊥
not_None x e = subst (λ o. elim o as (λ _. Type 0) [ None ↦ Unit {0} | Some y ↦ ⊥ ]) e tt

same_Some : {X : Type 0} (x y : X) → Some x ≡ Some y → x ≡ y
same_Some x y e = ap (λ o. unwrap_or o x) e

nat_eq-is : (a b : ℕ) → nat_eq a b ≡ true → a ≡ b
nat_eq-is a b e = (unsigned_Decides a b).0 e

-- ---- an entry that changes and keeps its slot

pub changed-slots : (es : List (ℕ × Held)) (k : ℕ) (h v : Held) → lookup (nat_eq k) es ≡ Some h → v.slot ≡ h.slot
    → slots_of (insert_entry nat_eq es k v) ≡ slots_of es
changed-slots [] k h v found same = absurd (not_None h found)
changed-slots (e ∷ es) k h v found same =
    elim (nat_eq k e.0) as (λ b. cond b (Some e.1) (lookup (nat_eq k) es) ≡ Some h
    → slots_of (if b then (e.0, v) ∷ es else e ∷ insert_entry nat_eq es k v) ≡ slots_of (e ∷ es)) [
      | true ↦ λ f. ap (λ s. s ∷ slots_of es) (same ∙ sym (ap (λ (x : Held). x.slot) (same_Some e.1 h f)))
      | false ↦ λ f. ap (λ ss. e.1.slot ∷ ss) (changed-slots es k h v f same)
    ] found

pub changed-all : (P : ℕ × Held → Type 0) (es : List (ℕ × Held)) (k : ℕ) (h v : Held) → lookup (nat_eq k) es ≡ Some h
    → ((x : ℕ) → P (x, h) → P (x, v))
    → AllByRecursion P es → AllByRecursion P (insert_entry nat_eq es k v)
changed-all P [] k h v found keeps all = absurd (not_None h found)
changed-all P (e ∷ es) k h v found keeps all =
    elim (nat_eq k e.0) as (λ b. cond b (Some e.1) (lookup (nat_eq k) es) ≡ Some h
    → AllByRecursion P (if b then (e.0, v) ∷ es else e ∷ insert_entry nat_eq es k v)) [
      | true ↦ λ f. (keeps e.0 (subst (λ x. P (e.0, x)) (same_Some e.1 h f) all.0), all.1)
      | false ↦ λ f. (all.0, changed-all P es k h v f keeps all.1)
    ] found

pub found-all : (P : ℕ × Held → Type 0) (es : List (ℕ × Held)) (k : ℕ) (h : Held) → lookup (nat_eq k) es ≡ Some h → AllByRecursion P es
    → (x : ℕ) × P (x, h)
found-all P [] k h found all = absurd (not_None h found)
found-all P (e ∷ es) k h found all =
    elim (nat_eq k e.0) as (λ b. cond b (Some e.1) (lookup (nat_eq k) es) ≡ Some h → (x : ℕ) × P (x, h)) [
      | true ↦ λ f. (e.0, subst (λ x. P (e.0, x)) (same_Some e.1 h f) all.0)
      | false ↦ λ f. found-all P es k h f all.1
    ] found

pub found-at : (P : ℕ × Held → Type 0) (es : List (ℕ × Held)) (k : ℕ) (h : Held) → lookup (nat_eq k) es ≡ Some h → AllByRecursion P es
    → P (k, h)
found-at P [] k h found all = absurd (not_None h found)
found-at P (e ∷ es) k h found all =
    elim (nat_eq k e.0) as (λ b. nat_eq k e.0 ≡ b → cond b (Some e.1) (lookup (nat_eq k) es) ≡ Some h → P (k, h)) [
      | true ↦ λ is f. subst (λ x. P (x, h)) (sym (nat_eq-is k e.0 is)) (subst (λ x. P (e.0, x)) (same_Some e.1 h f) all.0)
      | false ↦ λ _ f. found-at P es k h f all.1
    ] refl found

pub kept-changed : (es : List (ℕ × Held)) (p : Slots) (k : ℕ) (h v : Held) → IsKept es p → lookup (nat_eq k) es ≡ Some h → v.slot ≡ h.slot
    → v.mask ≢ 0
    → IsKept (insert_entry nat_eq es k v) p
kept-changed es p k h v kept found same some = record {
  slots = subst (λ ss. IsPermutation (slots_below (length p.holders)) (ss ++ p.free)) (sym (changed-slots es k h v found same)) kept.slots;
  holders = changed-all (λ e. slice_get p.holders e.1.slot ≡ Some e.0) es k h v found (λ x e. ap (slice_get p.holders) same
      ∙ e) kept.holders;
  few = kept.few;
  masks = changed-all (λ e. e.1.mask ≢ 0) es k h v found (λ x e. some) kept.masks;
}

-- ---- how many, and below what

pub kept-count : (es : List (ℕ × Held)) (p : Slots) → IsKept es p → length es + length p.free ≡ length p.holders
kept-count es p kept =
    let n = count-below (length p.holders) (slots_of es) p.free kept.slots in
    let m = length-map es (λ (e : ℕ × Held). e.1.slot) in
    omega (arith, n, m)

pub kept-range : (es : List (ℕ × Held)) (p : Slots) → IsKept es p → InRange p
kept-range es p kept = All-from_recursion (λ s. s < length p.holders) p.free
    (second-below (length p.holders) (slots_of es) p.free kept.slots)

-- ---- stamps that are taken away

pub cleared-slots : (stamps : ℕ) (es : List (ℕ × Held))
    → IsPermutation (slots_of es) (slots_of (cleared_list stamps es) ++ slots_dying stamps es)
cleared-slots stamps [] = IsPermutation-refl []
cleared-slots stamps (e ∷ es) =
    let more = slots_of (cleared_list stamps es) in
    let gone = slots_dying stamps es in
    let rest = IsPermutation-cons e.1.slot (slots_of es) (more ++ gone) (cleared-slots stamps es) in
    elim (lives (less stamps e.1)) as (λ b. IsPermutation (e.1.slot ∷ slots_of es)
    (slots_of (cond b ((e.0, less stamps e.1) ∷ cleared_list stamps es) (cleared_list stamps es))
    ++ ((if b then [] else e.1.slot ∷ []) ++ gone))) [
      | true ↦ rest
      | false ↦ IsPermutation-trans _ _ _ rest (IsPermutation-sym _ _ (IsPermutation-middle more e.1.slot gone))
    ]

pub cleared-all : (P Q : ℕ × Held → Type 0) (stamps : ℕ) (es : List (ℕ × Held)) → ((e : ℕ × Held) → P e → lives (less stamps e.1) ≡ true
    → Q (e.0, less stamps e.1))
    → AllByRecursion P es → AllByRecursion Q (cleared_list stamps es)
cleared-all P Q stamps [] keeps all = tt
cleared-all P Q stamps (e ∷ es) keeps all =
    elim (lives (less stamps e.1)) as (λ b. lives (less stamps e.1) ≡ b
    → AllByRecursion Q (cond b ((e.0, less stamps e.1) ∷ cleared_list stamps es) (cleared_list stamps es))) [
      | true ↦ λ live. (keeps e all.0 live, cleared-all P Q stamps es keeps all.1)
      | false ↦ λ _. cleared-all P Q stamps es keeps all.1
    ] refl

living-mask : (h : Held) → lives h ≡ true → h.mask ≢ 0
living-mask h live zero_mask = true≢false (sym live ∙ ap (λ m. not (nat_eq m 0)) zero_mask)

pub kept-cleared : (stamps : ℕ) (es : List (ℕ × Held)) (p : Slots) → IsKept es p
    → IsKept (cleared_list stamps es) (given_all p (slots_dying stamps es))
kept-cleared stamps es p kept =
    let left = slots_of (cleared_list stamps es) in
    let gone = slots_dying stamps es in
    let split = IsPermutation-append_left p.free (slots_of es) (left ++ gone) (cleared-slots stamps es) in
    let swapped = IsPermutation-append_right left (gone ++ p.free) (p.free ++ gone) (IsPermutation-append_comm gone p.free) in
    record {
      slots = IsPermutation-trans _ _ _ kept.slots (IsPermutation-trans _ _ _ (subst (λ ss. IsPermutation (slots_of es ++ p.free) ss)
          (append_assoc left gone p.free) split) swapped);
      holders = cleared-all (λ e. slice_get p.holders e.1.slot ≡ Some e.0) (λ e. slice_get p.holders e.1.slot ≡ Some e.0) stamps es
          (λ e h live. h) kept.holders;
      few = kept.few;
      masks = cleared-all (λ e. e.1.mask ≢ 0) (λ e. e.1.mask ≢ 0) stamps es (λ e h live. living-mask (less stamps e.1) live) kept.masks;
    }
