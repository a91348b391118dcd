-- Plans in which every phase is a round: their rows meet and fall, and what they have of letters.
use Rattle.std.specs.Prelude.{◌≡◌, refl, ℕ, zero, suc, ◌+◌, ◌-◌, ◌<◌, ◌≤◌, Bool, true, false, cond, if◌then◌else◌, List}
use Rattle.std.specs.Prelude.{[], ◌∷◌, ◌++◌, flat_map, nat_lt}
use Rattle.std.specs.List.{range_with_len}
use Rattle.std.proofs.Common.{ap, sym, ◌∙◌, arith, inl, inr, append-nil}
use Rattle.std.proofs.lemmas.Bool.{ltb-true, lt-ltb, le-ltb, cases_lt}
use Rattle.std.proofs.lemmas.List.Concat.{flat_map-append}
use Rattle.chaos_letter.specs.declared.letter.Letter.{Letter}
use Rattle.chaos_letter.specs.declared.wanted.Wanted.{Wanted}
use Rattle.bsp_core.specs.Views.{Face, Meets, for_node, ready}
use Rattle.bsp_core.specs.Lockstep.{upto, IsEnd}
use Rattle.bsp_desk.specs.Picks.{picked}
use Rattle.bsp_desk.specs.Rounds.{Round, IsRound, face_in, face_over, letters_to, round_meets, over_meets, round_one, round_came_in}

-- the rows of so many rounds
abbrev pub rows_of : ℕ → ℕ → (ℕ → Round) → ℕ → ℕ → Face
rows_of n phases rounds t p = if nat_lt t phases then face_in n (phases - t) (rounds t) p else face_over n p

-- the letter of a round from p to q, if one is sent
abbrev pub letter_in : Round → ℕ → ℕ → List Letter
letter_in r p q = if r.sent p q then r.letter p q ∷ [] else []

-- all letters from p to q, in the order of rounds
abbrev pub letters_of : ℕ → (ℕ → Round) → ℕ → ℕ → List Letter
letters_of phases rounds p q = flat_map (λ t. letter_in (rounds t) p q) (range_with_len 0 phases)

-- ---- they meet and fall

meets_if : (n left : ℕ) (r : Round) (b : Bool) → (b ≡ true → IsRound n r) → (b ≡ true → 0 < left)
    → Meets n (λ p. if b then face_in n left r p else face_over n p)
meets_if n left r true is some = round_meets n left r (is refl) (some refl)
meets_if n left r false is some = over_meets n

pub uniform_meets : (n phases : ℕ) (rounds : ℕ → Round) → ((t : ℕ) → t < phases → IsRound n (rounds t)) → (t : ℕ)
    → Meets n (rows_of n phases rounds t)
uniform_meets n phases rounds is t =
    meets_if n (phases - t) (rounds t) (nat_lt t phases) (λ e. is t (ltb-true t phases e))
    (λ e. let less : t < phases = ltb-true t phases e in omega (arith, less))

left_if : (b : Bool) (n left : ℕ) (r : Round) (p : ℕ) → (if b then face_in n left r p else face_over n p).left ≡ (if b then left else 0)
left_if true n left r p = refl
left_if false n left r p = refl

left_at : (n phases : ℕ) (rounds : ℕ → Round) (t : ℕ) → (rows_of n phases rounds t 0).left ≡ phases - t
left_at n phases rounds t =
    left_if (nat_lt t phases) n (phases - t) (rounds t) 0
    ∙ elim (cases_lt t phases) [
      | inl less ↦ ap (λ b. cond b (phases - t) 0) (lt-ltb t phases less)
      | inr over ↦ ap (λ b. cond b (phases - t) 0) (le-ltb t phases over) ∙ omega (arith, over)
    ]

pub uniform_fall : (n phases : ℕ) (rounds : ℕ → Round) (t : ℕ)
    → (rows_of n phases rounds (t + 1) 0).left ≤ (rows_of n phases rounds t 0).left - 1
uniform_fall n phases rounds t = omega (arith, left_at n phases rounds t, left_at n phases rounds (t + 1))

-- ---- their letters

pub uniform_end : (n phases : ℕ) (rounds : ℕ → Round) (end : ℕ) → IsEnd (rows_of n phases rounds) end → end ≡ phases
uniform_end n phases rounds end is =
    elim (cases_lt phases end) [
      | inl past ↦ absurd (omega (arith, is.1 phases past, left_at n phases rounds phases))
      | inr within ↦ omega (arith, within, is.0, left_at n phases rounds end)
    ]

range_last : (a n : ℕ) → range_with_len a (suc n) ≡ range_with_len a n ++ (a + n) ∷ []
range_last a zero = ap (λ k. k ∷ []) (let e : a ≡ a + 0 = omega arith in e)
range_last a (suc n) =
    let e : a + 1 + n ≡ a + suc n = omega arith in
    ap (λ l. a ∷ l) (range_last (a + 1) n) ∙ ap (λ k. a ∷ (range_with_len (a + 1) n ++ k ∷ [])) e

pub uniform_letters : (n phases : ℕ) (rounds : ℕ → Round) (p q t : ℕ) → q < n → t ≤ phases
    → upto (rows_of n phases rounds) p q t ≡ flat_map (λ s. letter_in (rounds s) p q) (range_with_len 0 t)
uniform_letters n phases rounds p q zero less within = refl
uniform_letters n phases rounds p q (suc t) less within =
    let here : nat_lt t phases ≡ true = lt-ltb t phases (omega (arith, within)) in
    let last : 0 + t ≡ t = omega arith in
    let f = λ (s : ℕ). letter_in (rounds s) p q in
    let before = flat_map f (range_with_len 0 t) in
    ap (λ l. l ++ for_node q (rows_of n phases rounds t p).out) (uniform_letters n phases rounds p q t less (omega (arith, within)))
    ∙ ap (λ b. before ++ for_node q (if b then face_in n (phases - t) (rounds t) p else face_over n p).out) here
    ∙ ap (λ l. before ++ l) (round_one n (phases - t) (rounds t) p q less ∙ sym (append-nil (f t)))
    ∙ sym (ap (flat_map f) (range_last 0 t ∙ ap (λ k. range_with_len 0 t ++ k ∷ []) last) ∙ flat_map-append f (range_with_len 0 t) (t ∷ []))

-- ---- from row to row

-- what a phase begins with: the round's letters and wants, or nothing where none is left
pub record IsBegun (n left : ℕ) (r : Round) (p : ℕ) (out : List (ℕ × Letter)) (due : List (ℕ × Wanted)) : Type 0 where
  pub some_out : 0 < left → out ≡ picked (r.letter p) (r.sent p) 0 n
  pub some_due : 0 < left → due ≡ picked (λ q. r.wanted q p) (λ q. r.sent q p) 0 n
  pub none_out : left ≡ 0 → out ≡ []
  pub none_due : left ≡ 0 → due ≡ []

abbrev face_with : ℕ → ℕ → ℕ → List (ℕ × Letter) → List (ℕ × Wanted) → Face
face_with n p left out due = record { me = p; count = n; left = left; out = out; due = due; got = [] }

pub row_begun : (n phases : ℕ) (rounds : ℕ → Round) (t p left : ℕ) (out : List (ℕ × Letter)) (due : List (ℕ × Wanted))
    → left ≡ phases - t → IsBegun n left (rounds t) p out due
    → record { me = p; count = n; left = left; out = out; due = due; got = [] } ≡ rows_of n phases rounds t p
row_begun n phases rounds t p left out due e is =
    let r = rounds t in
    let face = λ (b : Bool). cond b (face_in n (phases - t) r p) (face_over n p) in
    elim (cases_lt t phases) [
      | inl less ↦
          let some : 0 < left = omega (arith, e, less) in
          ap (λ l. face_with n p l out due) e
          ∙ ap (λ o. face_with n p (phases - t) o due) (is.some_out some)
          ∙ ap (λ d. face_with n p (phases - t) (picked (r.letter p) (r.sent p) 0 n) d) (is.some_due some)
          ∙ sym (ap face (lt-ltb t phases less))
      | inr over ↦
          let none : left ≡ 0 = omega (arith, e, over) in
          ap (λ l. face_with n p l out due) none
          ∙ ap (λ o. face_with n p 0 o due) (is.none_out none)
          ∙ ap (λ d. face_with n p 0 [] d) (is.none_due none)
          ∙ sym (ap face (le-ltb t phases over))
    ]

-- where a work is due, some phase is left, and the face tells which
pub record IsAt (n phases t p : ℕ) (v : Face) : Type 0 where
  pub within : t < phases
  pub left : v.left ≡ phases - t
  pub me : v.me ≡ p
  pub count : v.count ≡ n

ready_if : (b : Bool) (n left : ℕ) (r : Round) (p : ℕ)
    → let f : ℕ → Face = λ q. if b then face_in n left r q else face_over n q in
    ((ready f p).left ≡ (if b then left else 0)) × ((ready f p).me ≡ p) × ((ready f p).count ≡ n)
ready_if true n left r p = (refl, refl, refl)
ready_if false n left r p = (refl, refl, refl)

pub uniform_work : (n phases : ℕ) (rounds : ℕ → Round) (t p : ℕ) (v : Face) → v ≡ ready (rows_of n phases rounds t) p → 0 < v.left
    → IsAt n phases t p v
uniform_work n phases rounds t p v e some =
    let told = ready_if (nat_lt t phases) n (phases - t) (rounds t) p in
    let left : v.left ≡ (if nat_lt t phases then phases - t else 0) = ap (λ (f : Face). f.left) e ∙ told.0 in
    elim (cases_lt t phases) [
      | inl less ↦ record {
        within = less;
        left = left ∙ ap (λ b. cond b (phases - t) 0) (lt-ltb t phases less);
        me = ap (λ (f : Face). f.me) e ∙ told.1;
        count = ap (λ (f : Face). f.count) e ∙ told.2;
      }
      | inr over ↦ absurd (omega (arith, some, left ∙ ap (λ b. cond b (phases - t) 0) (le-ltb t phases over)))
    ]

-- and what it took are the round's letters
pub uniform_got : (n phases : ℕ) (rounds : ℕ → Round) (t p : ℕ) (v : Face) → p < n → v ≡ ready (rows_of n phases rounds t) p
    → t < phases → v.got ≡ letters_to n (rounds t) p
uniform_got n phases rounds t p v less e within =
    ap (λ (f : Face). f.got) e
    ∙ ap (λ b. (ready (λ q. cond b (face_in n (phases - t) (rounds t) q) (face_over n q)) p).got) (lt-ltb t phases within)
    ∙ round_came_in n (phases - t) (rounds t) p less
