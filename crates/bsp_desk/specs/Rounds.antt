-- Phases in which each node sends to some others what it takes from them: a round tells all letters of a phase.
use Rattle.std.specs.Prelude.{◌≡◌, refl, ℕ, zero, suc, ◌+◌, ◌<◌, ◌≤◌, Bool, true, false, if◌then◌else◌, List, [], ◌∷◌, ◌++◌, map, filter}
use Rattle.std.specs.List.{range_with_len}
use Rattle.std.proofs.Common.{ap, sym, ◌∙◌, subst, arith}
use Rattle.chaos_letter.specs.Fits.{Fits}
use Rattle.chaos_letter.specs.declared.letter.Letter.{Letter}
use Rattle.chaos_letter.specs.declared.wanted.Wanted.{Wanted}
use Rattle.bsp_core.specs.Others.{each}
use Rattle.bsp_core.specs.Resting.{rest_meets}
use Rattle.bsp_core.specs.Views.{Face, Meets, Serves, for_node, incoming, ready}
use Rattle.bsp_desk.specs.Picks.{picked, picked_ascends, picked_one, pick_with}

-- from p to q: the letter, whether it is sent, and what q wants of it
pub record Round : Type 0 where
  pub letter : ℕ → ℕ → Letter
  pub sent : ℕ → ℕ → Bool
  pub wanted : ℕ → ℕ → Wanted

-- no node sends to itself, and what is sent fits what is wanted
pub record IsRound (n : ℕ) (r : Round) : Type 0 where
  pub self : (p : ℕ) → r.sent p p ≡ false
  pub fits : (p q : ℕ) → p < n → q < n → r.sent p q ≡ true → Fits (r.wanted p q) (r.letter p q)

-- the face of p as a round begins, and where no phase is left
abbrev pub face_in : ℕ → ℕ → Round → ℕ → Face
face_in n left r p = record {
  me = p;
  count = n;
  left = left;
  out = picked (r.letter p) (r.sent p) 0 n;
  due = picked (λ q. r.wanted q p) (λ q. r.sent q p) 0 n;
  got = [];
}

abbrev pub face_over : ℕ → ℕ → Face
face_over n p = record { me = p; count = n; left = 0; out = []; due = []; got = [] }

-- the letters that p takes in a round
abbrev pub letters_to : ℕ → Round → ℕ → List Letter
letters_to n r p = map (λ q. r.letter q p) (filter (λ q. r.sent q p) (range_with_len 0 n))

-- ---- they meet

serves_if : (b : Bool) (w : Wanted) (x : Letter) → (b ≡ true → Fits w x) → Serves (if b then w ∷ [] else []) (if b then x ∷ [] else [])
serves_if true w x h = h refl
serves_if false w x h = tt

some_left : (left : ℕ) → 0 < left → left ≡ 0 → ⊥
some_left left some none = omega arith

pub round_meets : (n left : ℕ) (r : Round) → IsRound n r → 0 < left → Meets n (face_in n left r)
round_meets n left r is some = record {
  me = λ p l. refl;
  count = λ p l. refl;
  left = λ p l. refl;
  got = λ p l. refl;
  out = λ p l. picked_ascends (r.letter p) (r.sent p) p n 0 n (omega arith) (is.self p);
  due = λ p l. picked_ascends (λ q. r.wanted q p) (λ q. r.sent q p) p n 0 n (omega arith) (is.self p);
  serves = λ p q lp lq.
      let due = picked_one (λ k. r.wanted k q) (λ k. r.sent k q) p 0 n (omega arith) (omega (arith, lp)) in
      let out = picked_one (r.letter p) (r.sent p) q 0 n (omega arith) (omega (arith, lq)) in
      subst (λ ws. Serves ws (for_node q (picked (r.letter p) (r.sent p) 0 n))) (sym due)
      (subst (λ xs. Serves (if r.sent p q then r.wanted p q ∷ [] else []) xs) (sym out)
      (serves_if (r.sent p q) (r.wanted p q) (r.letter p q) (is.fits p q lp lq)));
  done = λ p l none. absurd (some_left left some none);
}

pub over_meets : (n : ℕ) → Meets n (face_over n)
over_meets n = rest_meets n

-- ---- what comes in

incoming_picked : (row : ℕ → Face) (w : ℕ → Wanted) (x : ℕ → Letter) (P : ℕ → Bool) (p low k : ℕ)
    → ((q : ℕ) → low ≤ q → q < low + k → P q ≡ true → for_node p (row q).out ≡ x q ∷ [])
    → incoming row p (picked w P low k) ≡ map x (filter P (range_with_len low k))
incoming_picked row w x P p low zero h = refl
incoming_picked row w x P p low (suc k) h =
    let rest = filter P (range_with_len (low + 1) k) in
    let next = incoming_picked row w x P p (low + 1) k (λ q l m. h q (omega arith) (omega arith)) in
    pick_with (λ gs. incoming row p (each w gs) ≡ map x gs) (P low) (low ∷ rest) rest
    (λ e.
    ap (λ (z : List Letter). z ++ incoming row p (picked w P (low + 1) k)) (h low (omega arith) (omega arith) e)
    ∙ ap (λ (z : List Letter). x low ∷ z) next)
    (λ e. next)

pub round_came_in : (n left : ℕ) (r : Round) (p : ℕ) → p < n → (ready (face_in n left r) p).got ≡ letters_to n r p
round_came_in n left r p less =
    incoming_picked (face_in n left r) (λ q. r.wanted q p) (λ q. r.letter q p) (λ q. r.sent q p) p 0 n
    (λ q l m sent.
    picked_one (r.letter q) (r.sent q) p 0 n (omega arith) (omega (arith, less))
    ∙ ap (λ (b : Bool). if b then r.letter q p ∷ [] else []) sent)

-- the letter of a round from p to q, if one is sent
pub round_one : (n left : ℕ) (r : Round) (p q : ℕ) → q < n
    → for_node q (face_in n left r p).out ≡ (if r.sent p q then r.letter p q ∷ [] else [])
round_one n left r p q less = picked_one (r.letter p) (r.sent p) q 0 n (omega arith) (omega (arith, less))
