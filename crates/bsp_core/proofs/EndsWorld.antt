-- Where no node of a World can move, all are done.
use Rattle.std.proofs.Common.{◌≡◌, ℕ, ◌+◌, ◌-◌, ◌<◌, ◌≤◌, List, inl, inr, length, map, sym, ◌∙◌, ap, subst, arith, Some, slice_get}
use Rattle.chaos_letter.specs.declared.letter.Letter.{Letter}
use Rattle.bsp_core.specs.Views.{Face, View, Meets, next_of}
use Rattle.bsp_core.specs.Lockstep.{IsOver}
use Rattle.bsp_core.specs.Turns.{WorldState, IsInLockstep, HasEnded, IsStill, AreDone, faces_of, sent_of, taken_of_pair, moves_of, Knows}
use Rattle.bsp_core.proofs.Ends.{IsStuck, all_done, is_over}
use Rattle.bsp_core.proofs.Sums.{times_all}
use Rattle.bsp_core.proofs.Scene.{face_at, get_map, get_below}
use Rattle.bsp_core.proofs.Turning.{n_is, other_in}
use Rattle.std.proofs.lemmas.Option.{slice_get_within}

stand_in : (from p n m : ℕ) (sent : List (List Letter)) (taken : List ℕ) → n ≡ m → length (sent_of m sent from p)
    ≤ taken_of_pair m taken from p →
    length (sent_of n sent from p) ≤ taken_of_pair n taken from p
stand_in from p n m sent taken e h = subst (λ (z : ℕ). length (sent_of z sent from p) ≤ taken_of_pair z taken from p) (sym e) h

-- some plan in which a World stands
pub known_plan : {N S P : Type 0} (view : N → View S) (is : P → Type 0) (count : P → ℕ) (rows : P → ℕ → ℕ → Face)
    (holds : P → ℕ → ℕ → S → Type 0) (v w : WorldState N) → v ≡ w
    → (plan : P) × is plan × IsInLockstep view (rows plan) (holds plan) (count plan) v
    → (plan : P) × is plan × IsInLockstep view (rows plan) (holds plan) (count plan) w
known_plan {N} view is count rows holds v w same h =
    (h.0, h.1, subst (λ (z : WorldState N). IsInLockstep view (rows h.0) (holds h.0) (count h.0) z) same h.2)

module _ {N S : Type 0} (view : N → View S) (rows : ℕ → ℕ → Face) (holds : ℕ → ℕ → S → Type 0) (n : ℕ) (meets : (t : ℕ)
    → Meets n (rows t)) (falls : (t : ℕ) → (rows (t + 1) 0).left ≤ (rows t 0).left - 1)
    (w : WorldState N) (h : IsInLockstep view rows holds n w) where
  face_in : (p : ℕ) (v : N) → slice_get w.nodes p ≡ Some v → faces_of (rows 0 0) (map view w.nodes) p ≡ (view v).face
  face_in p v e = face_at (map view w.nodes) p (view v) (rows 0 0) (get_map view w.nodes p v e)

  -- where no node can move, all are done
  pub still_done : ((p : ℕ) → p < length w.nodes → IsStill view p w) → AreDone view w.nodes
  still_done still =
      let faces : ℕ → Face = faces_of (rows 0 0) (map view w.nodes) in
      let sent : ℕ → ℕ → List Letter = sent_of n w.sent in
      let taken : ℕ → ℕ → ℕ = taken_of_pair n w.taken in
      let len : n ≡ length w.nodes = n_is view rows holds n meets w.nodes w.sent w.taken w.moved h in
      let stuck : (p : ℕ) → p < n → IsStuck n faces sent taken p = λ p l. elim (still p (omega arith)) [
        | inl a ↦
            let lf : a.from < n = omega (
              arith,
              len,
              other_in view rows holds n meets w.nodes w.sent w.taken w.moved h p a.from a.node
                  a.is a.from_in,
            ) in
            inr (a.from, lf, ap next_of (face_in p a.node a.is) ∙ a.due, stand_in a.from p n (length w.nodes) w.sent w.taken len a.empty)
        | inr b ↦ inl (ap next_of (face_in p b.node b.is) ∙ b.due)
      ] in
      λ p v e. ap next_of (sym (face_in p v e)) ∙ all_done rows n meets falls (Knows holds (map view w.nodes)) faces sent taken
      (moves_of w.moved) h.stands stuck p (omega (arith, len, slice_get_within w.nodes p v e))

  -- where all are done, the World is at the plan's end
  pub done_over : 0 < n → AreDone view w.nodes → HasEnded view rows holds n w
  done_over some done =
      let len : n ≡ length w.nodes = n_is view rows holds n meets w.nodes w.sent w.taken w.moved h in
      let o : (t : ℕ) × IsOver rows (Knows holds (map view w.nodes)) n t (faces_of (rows 0 0) (map view w.nodes)) (sent_of n w.sent)
      (taken_of_pair n w.taken) (moves_of w.moved) =
      is_over rows n meets falls (Knows holds (map view w.nodes)) (faces_of (rows 0 0) (map view w.nodes)) (sent_of n w.sent)
      (taken_of_pair n w.taken) (moves_of w.moved) h.stands
      (λ p l.
      let v : (v : N) × (slice_get w.nodes p ≡ Some v) = get_below w.nodes p (omega (arith, len)) in
      ap next_of (face_in p v.0 v.1) ∙ done p v.0 v.1) some in
      record { phases = o.0; is = o.1; moves = times_all n w.moved h.moved_in }
