-- Follows of one node, joined, and the choice of a run for each node.
use Rattle.std.proofs.Common.{◌≡◌, ◌≢◌, ◌==◌, ℕ, suc, zero, ◌+◌, ◌-◌, ◌<◌, ◌≤◌, List, [], ◌∷◌, ◌++◌, inl, inr, if◌then◌else◌, length, refl}
use Rattle.std.proofs.Common.{sym, ◌∙◌, ap, subst, arith, append_assoc, slice_get, Some, get_or}
use Rattle.std.proofs.lemmas.Bool.{cases_eq}
use Rattle.std.proofs.lemmas.Bool.Decides.{nat_tests}
use Rattle.chaos_letter.specs.declared.letter.Letter.{Letter}
use Rattle.chaos_letter.specs.declared.wanted.Wanted.{Wanted}
use Rattle.chaos_letter.specs.Fits.{Fits}
use Rattle.bsp_core.specs.Views.{Face, View, Meets, next_of, WorksFor}
use Rattle.bsp_core.specs.Lockstep.{upto, IsOver}
use Rattle.bsp_core.specs.Turns.{Begins}
use Rattle.bsp_core.specs.Follows.{Act, Sent, Took, Worked, put_to, taken_of, Follows, AreLawful, KnowsBy, WasDriven, AllDriven}
use Rattle.bsp_core.specs.Follows.{ArePrefixes, AreInLockstep}
use Rattle.bsp_core.proofs.Prefix.{lawful}
use Rattle.bsp_core.proofs.Scene.{get_below}

pub runs_append : {S : Type 0} (works : View S → View S → Type 0) (u v w : View S) (xs ys : List Act) → Follows works u xs v
    → Follows works v ys w → Follows works u (xs ++ ys) w
runs_append {S} works u v w [] ys h k = subst (λ (z : View S). Follows works z ys w) h k
runs_append {S} works u v w (d ∷ xs) ys h k = (h.0, h.1, runs_append works h.0 v w xs ys h.2 k)

pub put_append : (q : ℕ) (xs ys : List Act) → put_to q (xs ++ ys) ≡ put_to q xs ++ put_to q ys
put_append q [] ys = refl
put_append q (Sent to x ∷ xs) ys = grind (arith, put_append q xs ys, nat_tests)
put_append q (Took from x ∷ xs) ys = put_append q xs ys
put_append q (Worked ∷ xs) ys = put_append q xs ys

pub taken_append : (q : ℕ) (xs ys : List Act) → taken_of q (xs ++ ys) ≡ taken_of q xs ++ taken_of q ys
taken_append q [] ys = refl
taken_append q (Sent to x ∷ xs) ys = taken_append q xs ys
taken_append q (Took from x ∷ xs) ys = grind (arith, taken_append q xs ys, nat_tests)
taken_append q (Worked ∷ xs) ys = taken_append q xs ys

if_is : {X : Type 0} (a b : ℕ) (x y : X) → a ≡ b → (if a == b then x else y) ≡ x
if_is a b x y e = grind (arith, nat_tests)

if_not : {X : Type 0} (a b : ℕ) (x y : X) → a ≢ b → (if a == b then x else y) ≡ y
if_not a b x y e = grind (arith, nat_tests)

-- one function out of what is there for each number below n
pub choose : {X : Type 0} (P : ℕ → X → Type 0) (n : ℕ) (d : X) → ((j : ℕ) → j < n → (x : X) × P j x) → (f : ℕ → X)
    × ((j : ℕ) → j < n → P j (f j))
choose P zero d h = (λ j. d, λ j l. absurd (omega arith))
choose {X} P (suc n) d h =
    let r : (f : ℕ → X) × ((j : ℕ) → j < n → P j (f j)) = choose P n d (λ j l. h j (omega arith)) in
    let x : (x : X) × P n x = h n (omega arith) in (
      λ j. if j == n then x.0 else r.0 j,
      λ j l. elim (cases_eq j n) [
        | inl e ↦ subst (λ (z : X). P j z) (sym (if_is j n x.0 (r.0 j) e)) (subst (λ (k : ℕ). P k x.0) (sym e) x.1)
        | inr e ↦ subst (λ (z : X). P j z) (sym (if_not j n x.0 (r.0 j) e)) (r.1 j (omega (arith, e)))
      ],
    )

abbrev pub Driven : {S : Type 0} → (ℕ → ℕ → Face) → (ℕ → ℕ → S → Type 0) → (View S → View S → Type 0) → List (View S)
    → (ℕ → ℕ → List Letter) → (ℕ → ℕ → List Letter) → ℕ → List Act → View S → Type 0
Driven {S} rows holds works after sent taken p ds v = (slice_get after p ≡ Some v) × ((start : View S) × (start.face ≡ rows 0 p)
    × holds 0 p start.state × Follows works start ds v)
    × ((q : ℕ) → (rest : List Letter) × (put_to q ds ≡ sent p q ++ rest)) × ((q : ℕ) → taken q p ≡ taken_of q ds)

driven_by : {P S : Type 0} (is : P → Type 0) (count : P → ℕ) (rows : P → ℕ → ℕ → Face) (holds : P → ℕ → ℕ → S → Type 0) (plan : P)
    → is plan → 0 < count plan →
    ((t : ℕ) → Meets (count plan) (rows plan t)) → ((t : ℕ) → (rows plan (t + 1) 0).left ≤ (rows plan t 0).left - 1) →
    (after : List (View S)) (sent taken : ℕ → ℕ → List Letter) (acts : ℕ → List Act) (views : ℕ → View S) →
    ((p : ℕ) → p < count plan → Driven (rows plan) (holds plan) (WorksFor is count rows holds) after sent taken p (acts p) (views p))
    → ArePrefixes (count plan) taken sent → AreInLockstep (rows plan) (holds plan) (count plan) after sent taken
driven_by {P} {S} is count rows holds plan i some meets falls after sent taken acts views c prefixes =
    let n : ℕ = count plan in
    let tk : (p q : ℕ) → q < n → taken p q ≡ taken_of p (acts q) = λ p q l. (c q l).3 p in
    let law : AreLawful (rows plan) (holds plan) n acts views sent =
    lawful is count rows holds plan i some meets falls acts views sent (record {
      begun = λ p l. (c p l).1;
      put = λ p q lp lq. (c p lp).2 q;
      taken = λ p q lp lq. (
        (prefixes p q lp lq).0,
        (prefixes p q lp lq).1 ∙ ap (λ (z : List Letter). z ++ (prefixes p q lp lq).0)
            (tk p q lq),
      );
    }) in
    let same : (p : ℕ) (l : p < n) (y : View S) → slice_get after p ≡ Some y → views p ≡ y =
    λ p l y e. (let a : slice_get after p ≡ Some (views p) = (c p l).0 in let h : views p ≡ y = cc in h) in
    record {
      prefix = λ p q lp lq.
          let r : (rest : List Letter) × (put_to q (acts p) ≡ sent p q ++ rest) = (c p lp).2 q in
          let k : (t : ℕ) × (rest : List Letter) × (upto (rows plan) p q t ≡ put_to q (acts p) ++ rest) = law.prefix p q lp lq in
          (k.0, r.0 ++ k.1, k.2 ∙ ap (λ (z : List Letter). z ++ k.1) r.1 ∙ append_assoc (sent p q) r.0 k.1);
      fits = λ p q lp lq y e due more.
          let f : (wanted : Wanted) × (rest : List (ℕ × Wanted)) × ((views q).face.due ≡ (p, wanted) ∷ rest)
          × ((d : Letter) → Fits wanted (get_or (sent p q) (length (taken_of p (acts q))) d)) =
          law.fits p q lp lq (ap (λ (v : View S). next_of v.face) (same q lq y e) ∙ due)
          (subst (λ (z : List Letter). length z < length (sent p q)) (tk p q lq) more) in (
            f.0,
            f.1,
            ap (λ (v : View S). v.face.due) (sym (same q lq y e))
                ∙ f.2,
            λ d. subst (λ (z : List Letter). Fits f.0 (get_or (sent p q) (length z) d)) (sym (tk p q lq)) (f.3 d),
          );
      over = λ done.
          let o : (t : ℕ) × IsOver (rows plan) (KnowsBy (holds plan) views) n t (λ p. (views p).face) (λ p q. put_to q (acts p))
          (λ p q. length (taken_of p (acts q))) (λ p. length (acts p))
          × ((p q : ℕ) → p < n → q < n → (sent p q ≡ upto (rows plan) p q t) × (taken_of p (acts q) ≡ upto (rows plan) p q t)) =
          law.over (λ p l. done p (views p) (c p l).0) in (
            o.0,
            o.1.end,
            λ p q lp lq. ((o.2 p q lp lq).0, tk p q lq ∙ (o.2 p q lp lq).1),
            λ p y l e. (
              ap (λ (v : View S). v.face) (sym (same p l y e)) ∙ o.1.faces_are p l,
              subst (λ (v : View S). holds plan o.0 p v.state) (same p l y e) (o.1.known p l),
            ),
          );
    }

-- what follows of nodes that were driven, each by itself
pub driven : {P S : Type 0} (is : P → Type 0) (count : P → ℕ) (rows : P → ℕ → ℕ → Face) (holds : P → ℕ → ℕ → S → Type 0) (plan : P)
    → is plan → 0 < count plan →
    ((t : ℕ) → Meets (count plan) (rows plan t)) → ((t : ℕ) → (rows plan (t + 1) 0).left ≤ (rows plan t 0).left - 1) →
    (before after : List (View S)) (sent taken : ℕ → ℕ → List Letter) → Begins (rows plan) (holds plan) (count plan) before
    → length after ≡ count plan →
    AllDriven (WorksFor is count rows holds) before after sent taken → ArePrefixes (count plan) taken sent
    → AreInLockstep (rows plan) (holds plan) (count plan) after sent taken
driven {P} {S} is count rows holds plan i some meets falls before after sent taken begins len all prefixes =
    let n : ℕ = count plan in
    let works : View S → View S → Type 0 = WorksFor is count rows holds in
    let X : Type 0 = List Act × View S in
    let Q : ℕ → X → Type 0 = λ p z. Driven (rows plan) (holds plan) works after sent taken p z.0 z.1 in
    let each : (p : ℕ) → p < n → (z : X) × Q p z = λ p l.
    let x : (v : View S) × (slice_get before p ≡ Some v) = get_below before p (omega (arith, begins.0)) in
    let y : (v : View S) × (slice_get after p ≡ Some v) = get_below after p (omega (arith, len)) in
    let d : WasDriven works p x.0 y.0 sent taken = all p x.0 y.0 x.1 y.1 in
    ((d.acts, y.0), (y.1, (x.0, (begins.1 p x.0 x.1).0, (begins.1 p x.0 x.1).1, d.runs), d.put, d.took)) in
    let c : (f : ℕ → X) × ((p : ℕ) → p < n → Q p (f p)) = choose Q n (each 0 some).0 each in
    driven_by is count rows holds plan i some meets falls after sent taken (λ p. (c.0 p).0) (λ p. (c.0 p).1) c.1 prefixes
