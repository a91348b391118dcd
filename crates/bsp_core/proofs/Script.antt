-- Turns move as the plan says.
use Rattle.std.proofs.Common.{◌≡◌, ◌≢◌, ◌==◌, ℕ, suc, zero, ◌+◌, ◌-◌, ◌*◌, ◌%◌, ◌<◌, ◌≤◌, Bool, true, false, List, [], ◌∷◌, ◌++◌, ◌⊎◌, inl}
use Rattle.std.proofs.Common.{inr, if◌then◌else◌, length, map, drop, refl, sym, ◌∙◌, ap, subst, arith, length-append, append_assoc, Some}
use Rattle.std.proofs.Common.{None, Option, slice_get}
use Rattle.std.specs.Prelude.{nat_lt}
use Rattle.std.proofs.lemmas.List.{append-nil}
use Rattle.std.proofs.Math.Seq.{drop-append-add, drop-append_seam}
use Rattle.std.proofs.Math.ListN.{drop_of_length-le}
use Rattle.std.proofs.lemmas.Bool.{cases_eq}
use Rattle.std.proofs.lemmas.Bool.Decides.{nat_tests}
use Rattle.std.proofs.lemmas.Option.{slice_get_within}
use Rattle.chaos_letter.specs.declared.letter.Letter.{Letter}
use Rattle.chaos_letter.specs.declared.wanted.Wanted.{Wanted}
use Rattle.bsp_core.specs.declared.phased.Want.{Want}
use Rattle.bsp_core.specs.declared.phased.Want.TheVariants.{Send, Take, Work, Done}
use Rattle.bsp_core.specs.declared.turned.Turned.{Turned}
use Rattle.bsp_core.specs.declared.turned.Turned.TheVariants.{Moved, NotReady, Done as EndOfAll}
use Rattle.bsp_core.specs.Views.{Face, View, Meets, for_node, next_of, next_with}
use Rattle.bsp_core.specs.Lockstep.{StandsAt, moves_before, moves_in, times_in, upto}
use Rattle.bsp_core.specs.Turns.{WorldState, IsInLockstep, IsStill, AreDone, Acted, Moves, TurnIs, IsFirst, Sends, TakesUp, Works, drawn}
use Rattle.bsp_core.specs.Turns.{next_seed, rounds, nodes_below, sent_of, taken_of_pair, moves_of}
use Rattle.bsp_core.specs.Script.{next_place, place_after, place_in, out_at, due_at, want_at, count_sent, count_taken, can_do, can_move}
use Rattle.bsp_core.specs.Script.{turned_by, moves_by, first_can, with_first, draw, seeds, moves_drawn}
use Rattle.bsp_core.proofs.Places.{le_or_more}
use Rattle.bsp_core.proofs.Scene.{get_below}
use Rattle.bsp_core.proofs.Playing.{move_grows}
use Rattle.bsp_core.proofs.Moving.{from_there}
use Rattle.bsp_core.proofs.Turning.{n_is, other_in, stand_in}

if_same : {X : Type 0} (a b : ℕ) (x y : X) → a ≡ b → (if a == b then x else y) ≡ x
if_same a b x y e = grind (arith, nat_tests)

if_other : {X : Type 0} (a b : ℕ) (x y : X) → a ≢ b → (if a == b then x else y) ≡ y
if_other a b x y e = grind (arith, nat_tests)

if_yes : {X : Type 0} (b : Bool) (x y : X) → b ≡ true → (if b then x else y) ≡ x
if_yes true x y e = refl
if_yes false x y e = absurd (cc)

if_no : {X : Type 0} (b : Bool) (x y : X) → b ≡ false → (if b then x else y) ≡ y
if_no false x y e = refl
if_no true x y e = absurd (cc)

less_is : (a b : ℕ) → a < b → nat_lt a b ≡ true
less_is a b l = grind (arith, nat_tests)

not_less : (a b : ℕ) → b ≤ a → nat_lt a b ≡ false
not_less a b l = grind (arith, nat_tests)

-- ---- how far a node is

pub place_is : (rows : ℕ → ℕ → Face) (p m f k : ℕ) → m ≡ moves_before rows p f + k → k ≤ moves_in rows p f → place_after rows p m ≡ (f, k)
place_is rows p zero zero k e l = ap (λ (z : ℕ). (0, z)) (let h : 0 ≡ k = omega arith in h)
place_is rows p zero (suc f) k e l = absurd (omega arith)
place_is rows p (suc m) f (suc k) e l =
    ap (next_place rows p) (place_is rows p m f k (omega arith) (omega arith))
    ∙ if_other k (moves_in rows p f) (f + 1, 0) (f, k + 1) (λ h. absurd (omega (arith, h)))
    ∙ ap (λ (z : ℕ). (f, z)) (let h : k + 1 ≡ suc k = omega arith in h)
place_is rows p (suc m) zero zero e l = absurd (omega arith)
place_is rows p (suc m) (suc f) zero e l =
    ap (next_place rows p) (place_is rows p m f (moves_in rows p f) (omega arith) (omega arith))
    ∙ if_same (moves_in rows p f) (moves_in rows p f) (f + 1, 0) (f, moves_in rows p f + 1) refl
    ∙ ap (λ (z : ℕ). (z, 0)) (let h : f + 1 ≡ suc f = omega arith in h)

drop_more : {A : Type 0} (xs ys : List A) (k : ℕ) → k ≡ length xs → drop k (xs ++ ys) ≡ ys
drop_more xs ys k e = ap (λ (z : ℕ). drop z (xs ++ ys)) e ∙ drop-append_seam xs ys

module _ (rows : ℕ → ℕ → Face) (n p f : ℕ) (v : Face) (sent : ℕ → List Letter) (taken : ℕ → ℕ) (m : ℕ)
    (h : StandsAt rows n p f v sent taken m) where
  abbrev done_here : ℕ
  done_here = length h.posted + length h.fetched

  out_length : length h.posted + length v.out ≡ length (rows f p).out
  out_length = sym (length-append h.posted v.out) ∙ ap length h.out

  due_length : length h.fetched + length v.due ≡ length (rows f p).due
  due_length = sym (length-append h.fetched v.due) ∙ ap length h.due

  stand_place : place_after rows p m ≡ (f, done_here)
  stand_place = place_is rows p m f done_here (omega (arith, h.moves_are, out_length, due_length)) (omega (arith, out_length, due_length))

  stand_out : out_at rows p (place_after rows p m) ≡ v.out
  stand_out =
      ap (out_at rows p) stand_place
      ∙ elim h.order [
        | inl o ↦ drop_of_length-le (rows f p).out (let e : length v.out ≡ 0 = ap length o in omega (arith, e, out_length)) ∙ sym o
        | inr o ↦ ap (drop done_here) (sym h.out) ∙ drop_more h.posted v.out done_here (let e : length h.fetched ≡ 0 = ap length o in
            omega (arith, e))
      ]

  stand_due : due_at rows p (place_after rows p m) ≡ v.due
  stand_due =
      ap (due_at rows p) stand_place
      ∙ ap (drop (done_here - length (rows f p).out)) (sym h.due)
      ∙ elim h.order [
        | inl o ↦ drop_more h.fetched v.due (done_here - length (rows f p).out) (let e : length v.out ≡ 0 = ap length o in
            omega (arith, e, out_length))
        | inr o ↦ drop_more h.fetched v.due (done_here - length (rows f p).out) (let e : length h.fetched ≡ 0 = ap length o in
            omega (arith, e, out_length))
      ]

  pub stand_want : want_at rows p (place_after rows p m) ≡ next_of v
  stand_want =
      ap (λ (z : ℕ × ℕ). next_with (rows z.0 p).left (due_at rows p (place_after rows p m)) (out_at rows p (place_after rows p m)))
      stand_place
      ∙ ap (λ (z : _). next_with (rows f p).left z (out_at rows p (place_after rows p m))) stand_due
      ∙ ap (λ (z : _). next_with (rows f p).left v.due z) stand_out
      ∙ ap (λ (z : ℕ). next_with z v.due v.out) (sym (ap (λ (u : Face). u.left) h.is))

  pub stand_sent : (q : ℕ) → q < n → count_sent rows p q (place_after rows p m) ≡ length (sent q)
  stand_sent q l =
      ap (λ (z : ℕ × ℕ). length (upto rows p q (suc z.0)) - length (for_node q (out_at rows p (place_after rows p m)))) stand_place
      ∙ ap (λ (z : _). length (upto rows p q (suc f)) - length (for_node q z)) stand_out
      ∙ (let e : length (sent q) + length (for_node q v.out) ≡ length (upto rows p q (suc f)) = sym
      (length-append (sent q) (for_node q v.out)) ∙ ap length (h.sent_is q l) in omega (arith, e))

  pub stand_taken : (q : ℕ) → q < n → count_taken rows q p (place_after rows p m) ≡ taken q
  stand_taken q l =
      ap (λ (z : ℕ × ℕ). length (upto rows q p (suc z.0)) - length (for_node q (due_at rows p (place_after rows p m)))) stand_place
      ∙ ap (λ (z : _). length (upto rows q p (suc f)) - length (for_node q z)) stand_due
      ∙ (let e : taken q + length (for_node q v.due) ≡ length (upto rows q p (suc f)) = h.taken_is q l in omega (arith, e))

-- ---- a World

module _ {N S : Type 0} (view : N → View S) (rows : ℕ → ℕ → Face) (holds : ℕ → ℕ → S → Type 0) (n : ℕ) (meets : (t : ℕ)
    → Meets n (rows t)) (falls : (t : ℕ) → (rows (t + 1) 0).left ≤ (rows t 0).left - 1)
    (w : WorldState N) (h : IsInLockstep view rows holds n w) where
  stands : (p : ℕ) (v : N) → slice_get w.nodes p ≡ Some v →
      (p < n) × ((f : ℕ) × StandsAt rows n p f (view v).face (sent_of n w.sent p) (λ q. taken_of_pair n w.taken q p) (moves_of w.moved p)
      × holds f p (view v).state)
  stands p v e = stand_in view rows holds n meets w.nodes w.sent w.taken w.moved h p v e

  size : n ≡ length w.nodes
  size = n_is view rows holds n meets w.nodes w.sent w.taken w.moved h

  want_is : (p : ℕ) (v : N) → slice_get w.nodes p ≡ Some v → want_at rows p (place_in rows w.moved p) ≡ next_of (view v).face
  want_is p v e = let s = stands p v e in stand_want rows n p s.1.0 (view v).face (sent_of n w.sent p) (λ q. taken_of_pair n w.taken q p)
      (moves_of w.moved p) s.1.1

  can_is : (p : ℕ) (v : N) (want : Want) → slice_get w.nodes p ≡ Some v → next_of (view v).face ≡ want
      → can_move rows w.moved p ≡ can_do rows w.moved p want
  can_is p v want e d = ap (can_do rows w.moved p) (want_is p v e ∙ d)

  can_take : (p from : ℕ) (v : N) → slice_get w.nodes p ≡ Some v → from < n → next_of (view v).face ≡ Take from →
      can_move rows w.moved p ≡ nat_lt (taken_of_pair n w.taken from p) (length (sent_of n w.sent from p))
  can_take p from v e l d =
      let s = stands p v e in
      let u : (u : N) × (slice_get w.nodes from ≡ Some u) = get_below w.nodes from (omega (arith, size)) in
      let b = stands from u.0 u.1 in
      can_is p v (Take from) e d
      ∙ ap (λ (z : ℕ). nat_lt z (count_sent rows from p (place_in rows w.moved from)))
      (stand_taken rows n p s.1.0 (view v).face (sent_of n w.sent p) (λ q. taken_of_pair n w.taken q p) (moves_of w.moved p) s.1.1 from l)
      ∙ ap (λ (z : ℕ). nat_lt (taken_of_pair n w.taken from p) z)
      (stand_sent rows n from b.1.0 (view u.0).face (sent_of n w.sent from) (λ q. taken_of_pair n w.taken q from) (moves_of w.moved from)
      b.1.1 p s.0)

  pub still_cant : (p : ℕ) → IsStill view p w → can_move rows w.moved p ≡ false
  still_cant p still = elim still [
    | inl a ↦
        let l : a.from < n = omega (
          arith,
          size,
          other_in view rows holds n meets w.nodes w.sent w.taken w.moved h p a.from a.node a.is
              a.from_in,
        ) in
        can_take p a.from a.node a.is l a.due
        ∙ not_less (taken_of_pair n w.taken a.from p) (length (sent_of n w.sent a.from p))
        (subst (λ (z : ℕ). length (sent_of z w.sent a.from p) ≤ taken_of_pair z w.taken a.from p) (sym size) a.empty)
    | inr b ↦ can_is p b.node Done b.is b.due
  ]

  from_in : (p from : ℕ) (v : N) → slice_get w.nodes p ≡ Some v → next_of (view v).face ≡ Take from → from < n
  from_in p from v e d =
      omega (
        arith,
        size,
        other_in view rows holds n meets w.nodes w.sent w.taken w.moved h p from v e
            (from_there view rows holds n meets falls w h p from v e d),
      )

  can_act : (p : ℕ) (v u : N) (w' : WorldState N) → slice_get w.nodes p ≡ Some v → Acted view p v u w w' → can_move rows w.moved p ≡ true
  can_act p v u w' e (Sends to x d posts t s) = can_is p v (Send to) e d
  can_act p v u w' e (TakesUp from x d takes s got t) =
      can_take p from v e (from_in p from v e d) d
      ∙ less_is (taken_of_pair n w.taken from p) (length (sent_of n w.sent from p))
      (subst (λ (z : ℕ). taken_of_pair z w.taken from p < length (sent_of z w.sent from p)) (sym size)
      (slice_get_within (sent_of (length w.nodes) w.sent from p) (taken_of_pair (length w.nodes) w.taken from p) x got))
  can_act p v u w' e (Works d s t) = can_is p v Work e d

  move_can : (p : ℕ) (w' : WorldState N) → Moves view p w w' → can_move rows w.moved p ≡ true
  move_can p w' m = can_act p m.node m.after w' m.is m.act

  -- a turn
  move_turns : (p : ℕ) (w' : WorldState N) → Moves view p w w' → w'.moved ≡ turned_by rows w.moved p
  move_turns p w' m = m.moved ∙ sym (if_yes (can_move rows w.moved p) (w.moved ++ p ∷ []) w.moved (move_can p w' m))

  still_turns : (p : ℕ) (w' : WorldState N) → w' ≡ w → IsStill view p w → w'.moved ≡ turned_by rows w.moved p
  still_turns p w' e s = ap (λ (z : WorldState N). z.moved) e
      ∙ sym (if_no (can_move rows w.moved p) (w.moved ++ p ∷ []) w.moved (still_cant p s))

  pub turned_plan : (p : ℕ) (t : Turned) (w' : WorldState N) → TurnIs view p t w w' → w'.moved ≡ turned_by rows w.moved p
  turned_plan p Moved w' e = move_turns p w' e.0
  turned_plan p NotReady w' e = still_turns p w' e.0 (inl e.1)
  turned_plan p EndOfAll w' e = still_turns p w' e.0 (inr e.1)

  -- the first that can
  first_is : (from j k : ℕ) → j < k → ((i : ℕ) → i < j → IsStill view ((from + i) % n) w) → can_move rows w.moved ((from + j) % n) ≡ true →
      first_can rows w.moved n from k ≡ Some ((from + j) % n)
  first_is from j zero l still can = absurd (omega arith)
  first_is from zero (suc k) l still can =
      let e : from + 0 ≡ from = omega arith in
      if_yes (can_move rows w.moved (from % n)) (Some (from % n)) (first_can rows w.moved n (from + 1) k)
      (subst (λ (z : ℕ). can_move rows w.moved (z % n) ≡ true) e can)
      ∙ ap (λ (z : ℕ). Some (z % n)) (sym e)
  first_is from (suc j) (suc k) l still can =
      let e : (from + 1) + j ≡ from + suc j = omega arith in
      let z : from + 0 ≡ from = omega arith in
      if_no (can_move rows w.moved (from % n)) (Some (from % n)) (first_can rows w.moved n (from + 1) k)
      (still_cant (from % n) (subst (λ (y : ℕ). IsStill view (y % n) w) z (still 0 (omega arith))))
      ∙ first_is (from + 1) j k (omega arith)
      (λ i li. subst (λ (y : ℕ). IsStill view (y % n) w) (let a : from + suc i ≡ (from + 1) + i = omega arith in a)
      (still (suc i) (omega arith)))
      (subst (λ (y : ℕ). can_move rows w.moved (y % n) ≡ true) (sym e) can)
      ∙ ap (λ (y : ℕ). Some (y % n)) e

  pub draw_is : (from p : ℕ) (w' : WorldState N) → IsFirst view from p w → Moves view p w w' → w'.moved ≡ draw rows n from w.moved
  draw_is from p w' f m =
      let is : p ≡ (from + f.steps) % n = f.is ∙ ap (λ (z : ℕ). (from + f.steps) % z) (sym size) in
      m.moved
      ∙ ap (λ (z : ℕ). w.moved ++ z ∷ []) is
      ∙ ap (with_first w.moved) (sym (first_is from f.steps n (omega (arith, f.few, size))
      (λ i l. subst (λ (z : ℕ). IsStill view ((from + i) % z) w) (sym size) (f.before i l))
      (subst (λ (z : ℕ). can_move rows w.moved z ≡ true) is (move_can p w' m))))

-- ---- turns in order

pub moves_append : (rows : ℕ → ℕ → Face) (xs ys moved : List ℕ) → moves_by rows (xs ++ ys) moved ≡ moves_by rows ys (moves_by rows xs moved)
moves_append rows [] ys moved = refl
moves_append rows (p ∷ xs) ys moved = moves_append rows xs ys (turned_by rows moved p)

pub move_counts : {N S : Type 0} (view : N → View S) (k m p : ℕ) (a b c : WorldState N) → k ≤ 1 → length a.moved + m ≤ length b.moved
    → (0 < k → Moves view p b c) → (k ≡ 0 → c ≡ b) →
    length a.moved + (m + k) ≤ length c.moved
move_counts view zero m p a b c l i moves same = let e : length c.moved ≡ length b.moved = ap (λ (z : WorldState _). length z.moved)
    (same refl) in omega (arith, e, i)
move_counts view (suc k) m p a b c l i moves same = omega (arith, move_grows view p b c (moves (omega arith)), i, l)

-- a round more
pub round_more : (rows : ℕ → ℕ → Face) (k n m : ℕ) (start moved : List ℕ) → m ≡ n → moved ≡ moves_by rows (rounds k n) start →
    moves_by rows (nodes_below m) moved ≡ moves_by rows (rounds (suc k) n) start
round_more rows k n m start moved e h =
    ap (λ (z : ℕ). moves_by rows (nodes_below z) moved) e ∙ ap (moves_by rows (nodes_below n)) h
    ∙ sym (moves_append rows (rounds k n) (nodes_below n) start)

-- a draw more
pub draw_more : (rows : ℕ → ℕ → Face) (k n from seed state : ℕ) (start moved : List ℕ) → from ≡ drawn n (next_seed state)
    → state ≡ seeds k seed → moved ≡ moves_drawn rows n seed k start →
    draw rows n from moved ≡ moves_drawn rows n seed (suc k) start
draw_more rows k n from seed state start moved f s h =
    ap (λ (z : ℕ). draw rows n z moved) (f ∙ ap (λ (z : ℕ). drawn n (next_seed z)) s)
    ∙ ap (draw rows n (drawn n (next_seed (seeds k seed)))) h

-- where all are done, further rounds move none
rounds_join : (n j k : ℕ) → rounds (k + j) n ≡ rounds k n ++ rounds j n
rounds_join n zero k = ap (λ (z : ℕ). rounds z n) (let e : k + 0 ≡ k = omega arith in e) ∙ sym (append-nil (rounds k n))
rounds_join n (suc j) k =
    ap (λ (z : ℕ). rounds z n) (let e : k + suc j ≡ suc (k + j) = omega arith in e)
    ∙ ap (λ (z : List ℕ). z ++ nodes_below n) (rounds_join n j k) ∙ append_assoc (rounds k n) (rounds j n) (nodes_below n)

module _ (rows : ℕ → ℕ → Face) (n : ℕ) (moved : List ℕ) (none : (p : ℕ) → p < n → can_move rows moved p ≡ false) where
  none_below : (m : ℕ) → m ≤ n → moves_by rows (nodes_below m) moved ≡ moved
  none_below zero l = refl
  none_below (suc m) l =
      moves_append rows (nodes_below m) (m ∷ []) moved ∙ ap (λ (z : List ℕ). turned_by rows z m) (none_below m (omega arith))
      ∙ if_no (can_move rows moved m) (moved ++ m ∷ []) moved (none m (omega arith))

  none_round : (j : ℕ) → moves_by rows (rounds j n) moved ≡ moved
  none_round zero = refl
  none_round (suc j) = moves_append rows (rounds j n) (nodes_below n) moved ∙ ap (moves_by rows (nodes_below n)) (none_round j)
      ∙ none_below n (omega arith)

pub rounds_over : {N S : Type 0} (view : N → View S) (rows : ℕ → ℕ → Face) (holds : ℕ → ℕ → S → Type 0) (n : ℕ) (meets : (t : ℕ)
    → Meets n (rows t)) (falls : (t : ℕ) → (rows (t + 1) 0).left ≤ (rows t 0).left - 1)
    (w : WorldState N) → IsInLockstep view rows holds n w → AreDone view w.nodes → (m : ℕ) → length w.nodes ≡ m
    → (k j : ℕ) (start : List ℕ) → k ≤ j →
    w.moved ≡ moves_by rows (rounds k m) start → w.moved ≡ moves_by rows (rounds j m) start
rounds_over view rows holds n meets falls w h done m size k j start l e =
    let none : (p : ℕ) → p < m → can_move rows w.moved p ≡ false = λ p lp.
    let v : (v : _) × (slice_get w.nodes p ≡ Some v) = get_below w.nodes p (omega (arith, size)) in
    still_cant view rows holds n meets falls w h p (inr (record { node = v.0; is = v.1; due = done p v.0 v.1 })) in
    sym (none_round rows m w.moved none (j - k)) ∙ ap (moves_by rows (rounds (j - k) m)) e
    ∙ sym (moves_append rows (rounds k m) (rounds (j - k) m) start)
    ∙ ap (λ (z : List ℕ). moves_by rows z start) (sym (rounds_join m (j - k) k))
    ∙ ap (λ (z : ℕ). moves_by rows (rounds z m) start) (let i : k + (j - k) ≡ j = omega arith in i)

abbrev Longer : List ℕ → List ℕ → Type 0
Longer xs ys = (rest : List ℕ) × (ys ≡ xs ++ rest)

longer_more : (xs ys zs : List ℕ) → Longer xs ys → Longer ys zs → Longer xs zs
longer_more xs ys zs a b = (a.0 ++ b.0, b.1 ∙ ap (λ (z : List ℕ). z ++ b.0) a.1 ∙ append_assoc xs a.0 b.0)

longer_same : (xs ys : List ℕ) → ys ≡ xs → Longer xs ys
longer_same xs ys e = ([], e ∙ sym (append-nil xs))

turned_longer : (rows : ℕ → ℕ → Face) (moved : List ℕ) (p : ℕ) → Longer moved (turned_by rows moved p)
turned_longer rows moved p = elim (can_move rows moved p) as (λ b. Longer moved (if b then moved ++ p ∷ [] else moved)) [
  | true ↦ (p ∷ [], refl)
  | false ↦ ([], sym (append-nil moved))
]

moves_longer : (rows : ℕ → ℕ → Face) (turns moved : List ℕ) → Longer moved (moves_by rows turns moved)
moves_longer rows [] moved = longer_same moved moved refl
moves_longer rows (p ∷ turns) moved = longer_more moved (turned_by rows moved p) (moves_by rows turns (turned_by rows moved p))
    (turned_longer rows moved p) (moves_longer rows turns (turned_by rows moved p))

rounds_longer : (rows : ℕ → ℕ → Face) (n j k : ℕ) (moved : List ℕ) → j ≤ k → Longer (moves_by rows (rounds j n) moved)
    (moves_by rows (rounds k n) moved)
rounds_longer rows n j zero moved l = longer_same _ _ (ap (λ (z : ℕ). moves_by rows (rounds z n) moved) (let e : 0 ≡ j = omega arith in e))
rounds_longer rows n j (suc k) moved l = elim (cases_eq j (suc k)) [
  | inl e ↦ longer_same _ _ (ap (λ (z : ℕ). moves_by rows (rounds z n) moved) (sym e))
  | inr e ↦
      longer_more _ _ _ (rounds_longer rows n j k moved (omega (arith, e)))
      (subst (λ (z : List ℕ). Longer (moves_by rows (rounds k n) moved) z) (sym (moves_append rows (rounds k n) (nodes_below n) moved))
      (moves_longer rows (nodes_below n) (moves_by rows (rounds k n) moved)))
]

draws_longer : (rows : ℕ → ℕ → Face) (n seed j k : ℕ) (moved : List ℕ) → j ≤ k → Longer (moves_drawn rows n seed j moved)
    (moves_drawn rows n seed k moved)
draws_longer rows n seed j zero moved l = longer_same _ _ (ap (λ (z : ℕ). moves_drawn rows n seed z moved) (let e : 0 ≡ j = omega arith in
    e))
draws_longer rows n seed j (suc k) moved l = elim (cases_eq j (suc k)) [
  | inl e ↦ longer_same _ _ (ap (λ (z : ℕ). moves_drawn rows n seed z moved) (sym e))
  | inr e ↦
      let before : List ℕ = moves_drawn rows n seed k moved in
      longer_more _ _ _ (draws_longer rows n seed j k moved (omega (arith, e)))
      (with_longer before (first_can rows before n (drawn n (seeds (suc k) seed)) n))
] where
  with_longer : (xs : List ℕ) (first : Option ℕ) → Longer xs (with_first xs first)
  with_longer xs None = ([], sym (append-nil xs))
  with_longer xs (Some p) = (p ∷ [], refl)

no_rest : (xs ys : List ℕ) → Longer xs ys → length xs ≡ length ys → xs ≡ ys
no_rest xs ys (([], e)) l = sym (e ∙ append-nil xs)
no_rest xs ys ((p ∷ rest, e)) l = absurd (omega (arith, ap length e, length-append xs (p ∷ rest)))

pub rounds_agree : (rows : ℕ → ℕ → Face) (n j k : ℕ) (moved : List ℕ) → length (moves_by rows (rounds j n) moved)
    ≡ length (moves_by rows (rounds k n) moved) →
    moves_by rows (rounds j n) moved ≡ moves_by rows (rounds k n) moved
rounds_agree rows n j k moved e = elim (le_or_more j k) [
  | inl l ↦ no_rest _ _ (rounds_longer rows n j k moved l) e
  | inr l ↦ sym (no_rest _ _ (rounds_longer rows n k j moved (omega arith)) (sym e))
]

pub draws_agree : (rows : ℕ → ℕ → Face) (n seed j k : ℕ) (moved : List ℕ) → length (moves_drawn rows n seed j moved)
    ≡ length (moves_drawn rows n seed k moved) →
    moves_drawn rows n seed j moved ≡ moves_drawn rows n seed k moved
draws_agree rows n seed j k moved e = elim (le_or_more j k) [
  | inl l ↦ no_rest _ _ (draws_longer rows n seed j k moved l) e
  | inr l ↦ sym (no_rest _ _ (draws_longer rows n seed k j moved (omega arith)) (sym e))
]
