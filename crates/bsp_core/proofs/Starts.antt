-- Nodes that are together begin a plan.
use Rattle.std.proofs.Common.{◌≡◌, ℕ, suc, zero, ◌+◌, ◌*◌, ◌<◌, List, [], ◌++◌, inr, length, get_or, map, replicate, slice_get, Some, refl}
use Rattle.std.proofs.Common.{sym, ◌∙◌, ap, subst, arith}
use Rattle.std.proofs.lemmas.List.{append-nil, length-replicate, length-map}
use Rattle.chaos_letter.specs.declared.letter.Letter.{Letter}
use Rattle.bsp_core.specs.Views.{Face, View, Meets, for_node}
use Rattle.bsp_core.specs.Lockstep.{StandsAt}
use Rattle.bsp_core.specs.Turns.{ListsInLockstep, Begins, faces_of, sent_of, taken_of_pair}
use Rattle.bsp_core.proofs.Places.{serves_length}
use Rattle.bsp_core.proofs.Scene.{get_below, face_at}

none_at : {X : Type 0} (m k : ℕ) (d : X) → get_or (replicate m d) k d ≡ d
none_at zero k d = refl
none_at (suc m) zero d = refl
none_at (suc m) (suc k) d = none_at m k d

pub begin_stand : (rows : ℕ → ℕ → Face) (n p : ℕ) (v : Face) (sent : ℕ → List Letter) (taken : ℕ → ℕ) → ((t : ℕ) → Meets n (rows t))
    → p < n →
    v ≡ rows 0 p → ((q : ℕ) → sent q ≡ []) → ((q : ℕ) → taken q ≡ 0) → StandsAt rows n p 0 v sent taken 0
begin_stand rows n p v sent taken meets lp e hs ht = record {
  posted = [];
  fetched = [];
  is = e ∙ ap (λ (u : Face). let b : Face = rows 0 p in record b { out = u.out; due = u.due; got = (rows 0 p).got }) (sym e)
      ∙ ap (λ (z : List Letter). let b : Face = rows 0 p in record b { out = v.out; due = v.due; got = z })
      (sym (append-nil (rows 0 p).got));
  out = ap (λ (u : Face). u.out) e;
  due = ap (λ (u : Face). u.due) e;
  order = inr refl;
  sent_is = λ q l. ap (λ (z : List Letter). z ++ for_node q v.out) (hs q) ∙ ap (λ (u : Face). for_node q u.out) e;
  taken_is = λ q l.
      let a : length (for_node q v.due) ≡ length (for_node p (rows 0 q).out) = ap (λ (u : Face). length (for_node q u.due)) e
      ∙ serves_length _ _ ((meets 0).serves q p l lp) in
      omega (arith, ht q, a);
  moves_are = ap (λ (u : Face). 0 + (length u.out + length u.due)) e;
  before = λ t lt. absurd (omega arith);
}

pub begins_at : {S : Type 0} (rows : ℕ → ℕ → Face) (holds : ℕ → ℕ → S → Type 0) (n : ℕ) (views : List (View S))
    → ((t : ℕ) → Meets n (rows t)) → Begins rows holds n views →
    ListsInLockstep rows holds n views (replicate (n * n) []) (replicate (n * n) 0) []
begins_at {S} rows holds n views meets h = record {
  views_len = h.0;
  sent_len = length-replicate (n * n) [];
  taken_len = length-replicate (n * n) 0;
  moved_in = tt;
  stands = λ p l.
      let lv : p < length views = omega (arith, h.0) in
      let at : (v : View S) × (slice_get views p ≡ Some v) = get_below views p lv in (
        0,
        begin_stand rows n p (faces_of (rows 0 0) views p) (sent_of n (replicate (n * n) []) p)
            (λ q. taken_of_pair n (replicate (n * n) 0) q p) meets l
            (face_at views p at.0 (rows 0 0) at.1 ∙ (h.1 p at.0 at.1).0) (λ q. none_at (n * n) (p * n + q) [])
            (λ q. none_at (n * n) (q * n + p) 0),
        λ v e. (h.1 p v e).1,
      );
}

pub world_begins : {N S : Type 0} (view : N → View S) (rows : ℕ → ℕ → Face) (holds : ℕ → ℕ → S → Type 0) (n : ℕ) (nodes : List N)
    (sent : List (List Letter)) (taken moved : List ℕ) → ((t : ℕ) → Meets n (rows t)) →
    sent ≡ replicate (length nodes * length nodes) [] → taken ≡ replicate (length nodes * length nodes) 0 → moved ≡ []
    → Begins rows holds n (map view nodes) → ListsInLockstep rows holds n (map view nodes) sent taken moved
world_begins {N} {S} view rows holds n nodes sent taken moved meets es et em h =
    let k : n ≡ length nodes = sym h.0 ∙ length-map nodes view in
    subst (λ (z : List (List Letter)). ListsInLockstep rows holds n (map view nodes) z taken moved)
    (ap (λ (m : ℕ). replicate (m * m) []) k ∙ sym es)
    (subst (λ (z : List ℕ). ListsInLockstep rows holds n (map view nodes) (replicate (n * n) []) z moved)
    (ap (λ (m : ℕ). replicate (m * m) 0) k ∙ sym et)
    (subst (λ (z : List ℕ). ListsInLockstep rows holds n (map view nodes) (replicate (n * n) []) (replicate (n * n) 0) z) (sym em)
    (begins_at rows holds n (map view nodes) meets h)))
