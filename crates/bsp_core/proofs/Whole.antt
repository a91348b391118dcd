-- A plan has one end, and no letters after it.
use Rattle.std.proofs.Common.{◌≡◌, ◌≢◌, ℕ, suc, zero, ◌+◌, ◌-◌, ◌<◌, ◌≤◌, List, [], ◌++◌, inl, inr, sym, ◌∙◌, ap, subst, arith, add-one}
use Rattle.std.proofs.lemmas.Bool.{cases_eq}
use Rattle.std.proofs.lemmas.List.{append-nil}
use Rattle.chaos_letter.specs.declared.letter.Letter.{Letter}
use Rattle.bsp_core.specs.Views.{Face, Meets, for_node}
use Rattle.bsp_core.specs.Lockstep.{upto, IsEnd}
use Rattle.bsp_core.proofs.Places.{upto_more, le_or_more}
use Rattle.bsp_core.proofs.Ends.{left_falls}

module _ (rows : ℕ → ℕ → Face) (falls : (t : ℕ) → (rows (t + 1) 0).left ≤ (rows t 0).left - 1) where
  next_less : (t k : ℕ) → (rows t 0).left ≤ suc k → (rows (suc t) 0).left ≤ k
  next_less t k h = let f : (rows (suc t) 0).left ≤ (rows t 0).left - 1 = subst (λ (j : ℕ). (rows j 0).left ≤ (rows t 0).left - 1)
      (add-one t) (falls t) in omega (arith, f, h)

  before_next : (t : ℕ) → ((s : ℕ) → s < t → 0 < (rows s 0).left) → (rows t 0).left ≢ 0 → (s : ℕ) → s < suc t → 0 < (rows s 0).left
  before_next t before some s l = elim (cases_eq s t) [
    | inl e ↦ subst (λ (j : ℕ). 0 < (rows j 0).left) (sym e) (omega (arith, some))
    | inr ne ↦ before s (omega (arith, l, ne))
  ]

  -- from a phase on that has at most k phases left, the end comes
  end_from : (k t : ℕ) → (rows t 0).left ≤ k → ((s : ℕ) → s < t → 0 < (rows s 0).left) → (end : ℕ) × IsEnd rows end
  end_from zero t h before = (t, ((let e : (rows t 0).left ≡ 0 = omega (arith, h) in e), before))
  end_from (suc k) t h before = elim (cases_eq (rows t 0).left 0) [
    | inl e ↦ (t, (e, before))
    | inr some ↦ end_from k (suc t) (next_less t k h) (before_next t before some)
  ]

  pub has_end : (end : ℕ) × IsEnd rows end
  has_end = end_from (rows 0 0).left 0 (omega arith) (λ s l. absurd (omega (arith, l)))

  beyond : (n p q end t : ℕ) → ((t : ℕ) → Meets n (rows t)) → p < n → IsEnd rows end → end ≤ t → upto rows p q t ≡ upto rows p q end
  beyond n p q end zero meets lp is h = let e : zero ≡ end = omega (arith, h) in ap (upto rows p q) e
  beyond n p q end (suc t) meets lp is h = elim (cases_eq end (suc t)) [
    | inl e ↦ ap (upto rows p q) (sym e)
    | inr ne ↦
        let le : end ≤ t = omega (arith, h, ne) in
        let none : (rows t 0).left ≡ 0 = omega (arith, left_falls rows falls end t le, is.0) in
        ap (λ (z : List _). upto rows p q t ++ for_node q z) ((meets t).done p lp none).0 ∙ append-nil (upto rows p q t)
        ∙ beyond n p q end t meets lp is le
  ]

  pub upto_end : (n p q end t : ℕ) → ((t : ℕ) → Meets n (rows t)) → p < n → IsEnd rows end → (rest : List Letter)
      × (upto rows p q end ≡ upto rows p q t ++ rest)
  upto_end n p q end t meets lp is = elim (le_or_more t end) [
    | inl le ↦ upto_more rows p q t end le
    | inr lt ↦ ([], sym (beyond n p q end t meets lp is (omega (arith, lt))) ∙ sym (append-nil (upto rows p q t)))
  ]
