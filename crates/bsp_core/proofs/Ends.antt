-- Where no node can move, all are done.
use Rattle.std.proofs.Common.{◌≡◌, ℕ, suc, zero, ◌+◌, ◌-◌, ◌<◌, ◌≤◌, List, [], ◌∷◌, ◌++◌, ◌⊎◌, inl, inr, length, refl, sym, ◌∙◌, ap, subst}
use Rattle.std.proofs.Common.{arith, length-append, add-one}
use Rattle.std.proofs.lemmas.Bool.{cases_eq}
use Rattle.chaos_letter.specs.declared.letter.Letter.{Letter}
use Rattle.chaos_letter.specs.declared.wanted.Wanted.{Wanted}
use Rattle.bsp_core.specs.declared.phased.Want.TheVariants.{Take, Done}
use Rattle.bsp_core.specs.Views.{Face, Meets, next_of, for_node, ready, incoming}
use Rattle.bsp_core.specs.Lockstep.{upto, StandsAt, AllStand, IsEnd, IsOver, moves_before}
use Rattle.bsp_core.proofs.Places.{upto_more, for_node_same, le_or_more, is_ready}
use Rattle.std.proofs.lemmas.List.{append-nil}
use Rattle.bsp_core.proofs.Dues.{is_take, is_done}
use Rattle.bsp_core.proofs.Sums.{sum_ext, two_each}

-- the node can't move
abbrev pub IsStuck : ℕ → (ℕ → Face) → (ℕ → ℕ → List Letter) → (ℕ → ℕ → ℕ) → ℕ → Type 0
IsStuck n views sent taken p =
    (next_of (views p) ≡ Done) ⊎ ((from : ℕ) × (from < n) × (next_of (views p) ≡ Take from) × (length (sent from p) ≤ taken from p))

-- the phases left only fall
pub left_falls : (rows : ℕ → ℕ → Face) → ((t : ℕ) → (rows (t + 1) 0).left ≤ (rows t 0).left - 1) → (a b : ℕ) → a ≤ b
    → (rows b 0).left ≤ (rows a 0).left
left_falls rows falls a zero h = let e : a ≡ 0 = omega arith in subst (λ (k : ℕ). (rows 0 0).left ≤ (rows k 0).left) (sym e) (omega arith)
left_falls rows falls a (suc b) h =
    elim (cases_eq a (suc b)) [
      | inl e ↦ subst (λ (k : ℕ). (rows (suc b) 0).left ≤ (rows k 0).left) (sym e) (omega arith)
      | inr ne ↦
          let ih : (rows b 0).left ≤ (rows a 0).left = left_falls rows falls a b (omega arith) in
          let f : (rows (suc b) 0).left ≤ (rows b 0).left - 1 = subst (λ (k : ℕ). (rows k 0).left ≤ (rows b 0).left - 1) (add-one b)
          (falls b) in
          omega (arith, ih, f)
    ]

none_of : (p : ℕ) (xs : List (ℕ × Letter)) → xs ≡ [] → length (for_node p xs) ≡ 0
none_of p xs e = ap (λ (z : List (ℕ × Letter)). length (for_node p z)) e

-- a sender that is as far has not yet sent all
still_sends : (s m w more : List Letter) (k j : ℕ) → s ++ m ≡ w ++ more → length w ≡ suc k → length s ≤ k → length m ≡ 0 → ⊥
still_sends s m w more k j e l h z = omega (arith, ap length e, length-append s m, length-append w more)

no_due : (a b c : List (ℕ × Wanted)) (q : ℕ) (w : Wanted) (rest : List (ℕ × Wanted)) → a ++ b ≡ c → c ≡ [] → b ≡ (q, w) ∷ rest → ⊥
no_due a b c q w rest e z i = omega (arith, length-append a b, ap length e, ap length z, ap length i)

module _ (rows : ℕ → ℕ → Face) (n : ℕ) (meets : (t : ℕ) → Meets n (rows t)) (falls : (t : ℕ) → (rows (t + 1) 0).left ≤ (rows t 0).left - 1)
    (knows : ℕ → ℕ → Type 0) (views : ℕ → Face) (sent : ℕ → ℕ → List Letter) (taken : ℕ → ℕ → ℕ) (moves : ℕ → ℕ)
    (h : AllStand rows knows n views sent taken moves) where
  -- a node that is done is at a row with no phases left
  pub done_left : (p : ℕ) (l : p < n) → next_of (views p) ≡ Done → (rows (h p l).0 0).left ≡ 0
  done_left p l e =
      let s : StandsAt rows n p (h p l).0 (views p) (sent p) (λ q. taken q p) (moves p) = (h p l).1 in
      sym ((meets (h p l).0).left p l) ∙ sym (ap (λ (v : Face). v.left) s.is) ∙ (is_done (views p) e).2

  -- whom a stuck node waits for is behind
  behind : (p q : ℕ) (l : p < n) (k : q < n) → next_of (views p) ≡ Take q → length (sent q p) ≤ taken q p → (views q).out ≡ []
      → (h q k).0 < (h p l).0
  behind p q l k e empty out =
      let f : ℕ = (h p l).0 in
      let g : ℕ = (h q k).0 in
      let sp : StandsAt rows n p f (views p) (sent p) (λ r. taken r p) (moves p) = (h p l).1 in
      let sq : StandsAt rows n q g (views q) (sent q) (λ r. taken r q) (moves q) = (h q k).1 in
      let t : ((views p).out ≡ []) × ((w : Wanted) × (rest : List (ℕ × Wanted)) × ((views p).due ≡ (q, w) ∷ rest)) =
      is_take (views p) q e in
      let count : taken q p + length (for_node q (views p).due) ≡ length (upto rows q p (suc f)) = sp.taken_is q k in
      let one : length (for_node q (views p).due) ≡ suc (length (for_node q t.1.1)) = ap length (ap (for_node q) t.1.2
      ∙ for_node_same q q t.1.0 t.1.1 refl) in
      elim (le_or_more f g) [
        | inr lt ↦ lt
        | inl le ↦
            let m : (more : List Letter) × (upto rows q p (suc g) ≡ upto rows q p (suc f) ++ more) = upto_more rows q p (suc f) (suc g)
            (omega arith) in
            let e2 : sent q p ++ for_node p (views q).out ≡ upto rows q p (suc f) ++ m.0 = sq.sent_is p l ∙ m.1 in
            let z : length (for_node p (views q).out) ≡ 0 = none_of p (views q).out out in
            let a : length (sent q p) + length (for_node p (views q).out) ≡ length (upto rows q p (suc f)) + length m.0 =
            sym (length-append (sent q p) (for_node p (views q).out)) ∙ ap length e2 ∙ length-append (upto rows q p (suc f)) m.0 in
            absurd (omega (arith, a, z, count, one, empty))
      ]

  stuck_out : (q : ℕ) → IsStuck n views sent taken q → (views q).out ≡ []
  stuck_out q s = elim s [ inl d ↦ (is_done (views q) d).0 | inr t ↦ (is_take (views q) t.0 t.2).0 ]

  pub all_done_below : (k : ℕ) → ((p : ℕ) → p < n → IsStuck n views sent taken p) → (p : ℕ) (l : p < n) → (h p l).0 < k
      → next_of (views p) ≡ Done
  all_done_below zero stuck p l lt = absurd (omega arith)
  all_done_below (suc k) stuck p l lt =
      elim (stuck p l) [
        | inl d ↦ d
        | inr t ↦
            let q : ℕ = t.0 in
            let b : (h q t.1).0 < (h p l).0 = behind p q l t.1 t.2 t.3 (stuck_out q (stuck q t.1)) in
            let d : next_of (views q) ≡ Done = all_done_below k stuck q t.1 (omega arith) in
            let zero_left : (rows (h q t.1).0 0).left ≡ 0 = done_left q t.1 d in
            let m : (rows (h p l).0 0).left ≤ (rows (h q t.1).0 0).left = left_falls rows falls (h q t.1).0 (h p l).0 (omega arith) in
            let z : (rows (h p l).0 0).left ≡ 0 = omega arith in
            let none : (rows (h p l).0 p).due ≡ [] = ((meets (h p l).0).done p l z).1 in
            let w : ((views p).out ≡ []) × ((w : Wanted) × (rest : List (ℕ × Wanted)) × ((views p).due ≡ (q, w) ∷ rest)) =
            is_take (views p) q t.2 in
            let s : StandsAt rows n p (h p l).0 (views p) (sent p) (λ r. taken r p) (moves p) = (h p l).1 in
            absurd (no_due s.fetched (views p).due (rows (h p l).0 p).due q w.1.0 w.1.1 s.due none w.1.2)
      ]

  pub all_done : ((p : ℕ) → p < n → IsStuck n views sent taken p) → (p : ℕ) → p < n → next_of (views p) ≡ Done
  all_done stuck p l = all_done_below (suc (h p l).0) stuck p l (omega arith)

pub one_end : (rows : ℕ → ℕ → Face) (s t : ℕ) → IsEnd rows s → IsEnd rows t → s ≡ t
one_end rows s t a b = elim (le_or_more s t) [
  | inl le ↦ elim (cases_eq s t) [
    | inl e ↦ e
    | inr ne ↦ (let z : 0 < (rows s 0).left = b.1 s (omega arith) in
        absurd (omega (arith, z, a.0)))
  ]
  | inr lt ↦ (let z : 0 < (rows t 0).left = a.1 t lt in absurd (omega (arith, z, b.0)))
]

ready_last : (row : ℕ → Face) (p : ℕ) → (row p).out ≡ [] → (row p).due ≡ [] → ready row p ≡ row p
ready_last row p o d =
    ap (λ (z : List (ℕ × Wanted)). let b : Face = row p in record b { out = []; due = []; got = (row p).got ++ incoming row p z }) d
    ∙ ap (λ (z : List Letter). let b : Face = row p in record b { out = []; due = []; got = z }) (append-nil (row p).got)
    ∙ ap (λ (z : List (ℕ × Letter)). let b : Face = row p in record b { out = z; due = []; got = (row p).got }) (sym o)
    ∙ ap (λ (z : List (ℕ × Wanted)). let b : Face = row p in record b { out = (row p).out; due = z; got = (row p).got }) (sym d)

last_moves : (m a b all c d : ℕ) → a ≡ 0 → b ≡ 0 → c ≡ 0 → d ≡ 0 → m + (a + b) ≡ all + (c + d) → m ≡ all
last_moves m a b all c d e i j k h = omega arith

-- Where all are done, all stand at the plan's end.
module _ (rows : ℕ → ℕ → Face) (n : ℕ) (meets : (t : ℕ) → Meets n (rows t)) (falls : (t : ℕ) → (rows (t + 1) 0).left ≤ (rows t 0).left - 1)
    (knows : ℕ → ℕ → Type 0) (views : ℕ → Face) (sent : ℕ → ℕ → List Letter) (taken : ℕ → ℕ → ℕ) (moves : ℕ → ℕ)
    (h : AllStand rows knows n views sent taken moves) (done : (p : ℕ) → p < n → next_of (views p) ≡ Done) where
  pub place_ends : (p : ℕ) (l : p < n) → IsEnd rows (h p l).0
  place_ends p l = (done_left rows n meets falls knows views sent taken moves h p l (done p l), (h p l).1.before)

  pub end_sent : (t p q : ℕ) (l : p < n) → q < n → IsEnd rows t → sent p q ≡ upto rows p q t
  end_sent t p q l k e =
      let s : StandsAt rows n p (h p l).0 (views p) (sent p) (λ r. taken r p) (moves p) = (h p l).1 in
      let i : (h p l).0 ≡ t = one_end rows (h p l).0 t (place_ends p l) e in
      let o : (rows (h p l).0 p).out ≡ [] = ((meets (h p l).0).done p l (place_ends p l).0).0 in
      sym (append-nil (sent p q)) ∙ ap (λ (z : List (ℕ × Letter)). sent p q ++ for_node q z) (sym (is_done (views p) (done p l)).0)
      ∙ s.sent_is q k
      ∙ ap (λ (z : List (ℕ × Letter)). upto rows p q (h p l).0 ++ for_node q z) o ∙ append-nil (upto rows p q (h p l).0)
      ∙ ap (λ (f : ℕ). upto rows p q f) i

  pub end_taken : (t p q : ℕ) (l : p < n) → q < n → IsEnd rows t → taken q p ≡ length (upto rows q p t)
  end_taken t p q l k e =
      let s : StandsAt rows n p (h p l).0 (views p) (sent p) (λ r. taken r p) (moves p) = (h p l).1 in
      let i : (h p l).0 ≡ t = one_end rows (h p l).0 t (place_ends p l) e in
      let o : (rows (h p l).0 q).out ≡ [] = ((meets (h p l).0).done q k (place_ends p l).0).0 in
      let a : length (for_node q (views p).due) ≡ 0 = ap (λ (z : List (ℕ × Wanted)). length (for_node q z))
      (is_done (views p) (done p l)).1 in
      let b : upto rows q p (suc (h p l).0) ≡ upto rows q p t =
      ap (λ (z : List (ℕ × Letter)). upto rows q p (h p l).0 ++ for_node p z) o ∙ append-nil (upto rows q p (h p l).0)
      ∙ ap (λ (f : ℕ). upto rows q p f) i in
      let c : taken q p + length (for_node q (views p).due) ≡ length (upto rows q p (suc (h p l).0)) = s.taken_is q k in
      omega (arith, a, c, ap length b)

  pub end_view : (t p : ℕ) (l : p < n) → IsEnd rows t → views p ≡ rows t p
  end_view t p l e =
      is_ready rows n p (h p l).0 (views p) (sent p) (λ r. taken r p) (moves p) (h p l).1 (is_done (views p) (done p l)).0
      (is_done (views p) (done p l)).1
      ∙ ready_last (rows (h p l).0) p ((meets (h p l).0).done p l (place_ends p l).0).0 ((meets (h p l).0).done p l (place_ends p l).0).1
      ∙ ap (λ (f : ℕ). rows f p) (one_end rows (h p l).0 t (place_ends p l) e)

  pub end_moves : (t p : ℕ) (l : p < n) → IsEnd rows t → moves p ≡ moves_before rows p t
  end_moves t p l e =
      let s : StandsAt rows n p (h p l).0 (views p) (sent p) (λ r. taken r p) (moves p) = (h p l).1 in
      let i : (h p l).0 ≡ t = one_end rows (h p l).0 t (place_ends p l) e in
      let d : ((rows (h p l).0 p).out ≡ []) × ((rows (h p l).0 p).due ≡ []) = (meets (h p l).0).done p l (place_ends p l).0 in
      last_moves (moves p) (length (views p).out) (length (views p).due) (moves_before rows p (h p l).0) (length (rows (h p l).0 p).out)
      (length (rows (h p l).0 p).due)
      (ap length (is_done (views p) (done p l)).0) (ap length (is_done (views p) (done p l)).1) (ap length d.0) (ap length d.1) s.moves_are
      ∙ ap (λ (f : ℕ). moves_before rows p f) i

  pub end_knows : (t p : ℕ) (l : p < n) → IsEnd rows t → knows t p
  end_knows t p l e = subst (λ (f : ℕ). knows f p) (one_end rows (h p l).0 t (place_ends p l) e) (h p l).2

  pub is_over : 0 < n → (t : ℕ) × IsOver rows knows n t views sent taken moves
  is_over some =
      let t : ℕ = (h 0 some).0 in
      let e : IsEnd rows t = place_ends 0 some in (
        t,
        record {
          end = e;
          sent_is = λ p q l k. end_sent t p q l k e;
          taken_is = λ p q l k. end_taken t q p k l e;
          faces_are = λ p l. end_view t p l e;
          known = λ p l. end_knows t p l e;
          moves_are = λ p l. end_moves t p l e;
          all_moves = sum_ext n moves (λ p. moves_before rows p t) (λ p l. end_moves t p l e) ∙ two_each rows n meets t;
        },
      )
