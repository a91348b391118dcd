-- One step of giving slots back.
use Rattle.std.proofs.Common.{◌≡◌, ℕ, ◌+◌, ◌-◌, ◌<◌, ◌≤◌, List, [], ◌∷◌, ◌++◌, length, drop, Some, refl, ap, sym, ◌∙◌, append_assoc, arith}
use Rattle.std.proofs.Common.{length-append}
use Rattle.std.specs.List.{slice_get}
use Rattle.std.proofs.lemmas.Option.{get_or_from_slice_get, slice_get_within}
use Rattle.std.proofs.lemmas.List.{drop_more}
use Rattle.std.specs.Prelude.{if◌then◌else◌, Bool, true, false}
use Rattle.chaos_hash.specs.declared.held.Held.{Held}
use Rattle.std.proofs.Common.{cond}
use Rattle.chaos_hash.specs.Stamps.{dying_slot, slots_dying, less, lives, meets, chosen_list}

pub drop_at : {X : Type 0} (xs : List X) (i : ℕ) (x : X) → slice_get xs i ≡ Some x → drop i xs ≡ x ∷ drop (i + 1) xs
drop_at xs i x e = drop_more xs i x (slice_get_within xs i x e) ∙ ap (λ y. y ∷ drop (i + 1) xs) (get_or_from_slice_get xs i x x e)

pub one_given : (stamps : ℕ) (es : List (ℕ × Held)) (i : ℕ) (e : ℕ × Held) (front further all : List ℕ) → slice_get es i ≡ Some e
    → further ≡ front ++ dying_slot stamps e.1 → front ++ slots_dying stamps (drop i es) ≡ all
    → further ++ slots_dying stamps (drop (i + 1) es) ≡ all
one_given stamps es i e front further all at given before =
    ap (λ f. f ++ slots_dying stamps (drop (i + 1) es)) given
    ∙ append_assoc front (dying_slot stamps e.1) (slots_dying stamps (drop (i + 1) es))
    ∙ ap (λ ds. front ++ slots_dying stamps ds) (sym (drop_at es i e at))
    ∙ before

at_most_one : (b : Bool) (s : ℕ) → length (if b then [] else s ∷ []) ≤ 1
at_most_one true s = omega arith
at_most_one false s = omega arith

pub room_left : (stamps : ℕ) (h : Held) (front further : List ℕ) (n i m : ℕ) → further ≡ front ++ dying_slot stamps h → i < n
    → length front + (n - i) ≤ m → length further + (n - (i + 1)) ≤ m
room_left stamps h front further n i m given lt before =
    let one : length (dying_slot stamps h) ≤ 1 = at_most_one (lives (less stamps h)) h.slot in
    omega (arith, one, ap length given, length-append front (dying_slot stamps h))

-- one step of choosing entries
pub one_chosen : (mask : ℕ) (es : List (ℕ × Held)) (i : ℕ) (e : ℕ × Held) (front further all : List (ℕ × Held)) → slice_get es i ≡ Some e
    → further ≡ front ++ chosen_list mask (e ∷ []) → front ++ chosen_list mask (drop i es) ≡ all
    → further ++ chosen_list mask (drop (i + 1) es) ≡ all
one_chosen mask es i e front further all at noted before =
    ap (λ f. f ++ chosen_list mask (drop (i + 1) es)) noted
    ∙ append_assoc front (chosen_list mask (e ∷ [])) (chosen_list mask (drop (i + 1) es))
    ∙ ap (λ ds. front ++ ds) (cons_chosen mask e (drop (i + 1) es))
    ∙ ap (λ ds. front ++ chosen_list mask ds) (sym (drop_at es i e at))
    ∙ before
  where
    cons_chosen : (mask : ℕ) (e : ℕ × Held) (es : List (ℕ × Held)) → chosen_list mask (e ∷ []) ++ chosen_list mask es ≡ chosen_list mask
        (e ∷ es)
    cons_chosen mask e es = elim (meets e.1.mask mask) as (λ b. cond b (e ∷ []) [] ++ chosen_list mask es
        ≡ cond b (e ∷ chosen_list mask es) (chosen_list mask es)) [ true ↦ refl | false ↦ refl ]
