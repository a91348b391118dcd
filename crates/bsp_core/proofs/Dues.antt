-- What an action that is due says.
use Rattle.std.proofs.Common.{◌≡◌, ◌≢◌, ◌==◌, ℕ, true, false, List, [], ◌∷◌, if◌then◌else◌, refl, ap, arith}
use Rattle.std.proofs.lemmas.Bool.Decides.{nat_tests}
use Rattle.chaos_letter.specs.declared.letter.Letter.{Letter}
use Rattle.chaos_letter.specs.declared.wanted.Wanted.{Wanted}
use Rattle.bsp_core.specs.declared.phased.Want.TheVariants.{Send, Take, Work, Done}
use Rattle.bsp_core.specs.Views.{Face, next_of, next_with, Below, Ascends, nodes_in}

next_with_below : (me count left : ℕ) (due : List (ℕ × Wanted)) (out : List (ℕ × Letter)) → Ascends me count 0 (nodes_in out)
    → Ascends me count 0 (nodes_in due) →
    Below (next_with left due out) count
next_with_below me count left due (x ∷ xs) o d = o.1
next_with_below me count left (x ∷ xs) [] o d = d.1
next_with_below me count left [] [] o d =
    elim (left == 0) as (λ b. Below (if◌then◌else◌ b Done Work) count) [ true ↦ tt | false ↦ tt ]

pub next_below : (v : Face) → Ascends v.me v.count 0 (nodes_in v.out) → Ascends v.me v.count 0 (nodes_in v.due) → Below (next_of v) v.count
next_below v o d = next_with_below v.me v.count v.left v.due v.out o d

-- what an action that is due says of the view
next_with_send : (left : ℕ) (due : List (ℕ × Wanted)) (out : List (ℕ × Letter)) (to : ℕ) → next_with left due out ≡ Send to → (x : Letter)
    × (rest : List (ℕ × Letter)) × (out ≡ (to, x) ∷ rest)
next_with_send left due (x ∷ xs) to e = (x.1, xs, ap (λ (k : ℕ). (k, x.1) ∷ xs) (let h : x.0 ≡ to = cc in h))
next_with_send left (x ∷ xs) [] to e = absurd (cc)
next_with_send left [] [] to e = absurd (grind arith)

next_with_take : (left : ℕ) (due : List (ℕ × Wanted)) (out : List (ℕ × Letter)) (from : ℕ) → next_with left due out ≡ Take from →
    (out ≡ []) × ((w : Wanted) × (rest : List (ℕ × Wanted)) × (due ≡ (from, w) ∷ rest))
next_with_take left due (x ∷ xs) from e = absurd (cc)
next_with_take left (x ∷ xs) [] from e = (refl, (x.1, xs, ap (λ (k : ℕ). (k, x.1) ∷ xs) (let h : x.0 ≡ from = cc in h)))
next_with_take left [] [] from e = absurd (grind arith)

next_with_work : (left : ℕ) (due : List (ℕ × Wanted)) (out : List (ℕ × Letter)) → next_with left due out ≡ Work → (out ≡ []) × (due ≡ [])
    × (left ≢ 0)
next_with_work left due (x ∷ xs) e = absurd (cc)
next_with_work left (x ∷ xs) [] e = absurd (cc)
next_with_work left [] [] e = (refl, refl, λ z. absurd (grind (arith, nat_tests)))

next_with_done : (left : ℕ) (due : List (ℕ × Wanted)) (out : List (ℕ × Letter)) → next_with left due out ≡ Done → (out ≡ []) × (due ≡ [])
    × (left ≡ 0)
next_with_done left due (x ∷ xs) e = absurd (cc)
next_with_done left (x ∷ xs) [] e = absurd (cc)
next_with_done left [] [] e = (refl, refl, grind (arith, nat_tests))

pub is_send : (v : Face) (to : ℕ) → next_of v ≡ Send to → (x : Letter) × (rest : List (ℕ × Letter)) × (v.out ≡ (to, x) ∷ rest)
is_send v to e = next_with_send v.left v.due v.out to e

pub is_take : (v : Face) (from : ℕ) → next_of v ≡ Take from → (v.out ≡ []) × ((w : Wanted) × (rest : List (ℕ × Wanted))
    × (v.due ≡ (from, w) ∷ rest))
is_take v from e = next_with_take v.left v.due v.out from e

pub is_work : (v : Face) → next_of v ≡ Work → (v.out ≡ []) × (v.due ≡ []) × (v.left ≢ 0)
is_work v e = next_with_work v.left v.due v.out e

pub is_done : (v : Face) → next_of v ≡ Done → (v.out ≡ []) × (v.due ≡ []) × (v.left ≡ 0)
is_done v e = next_with_done v.left v.due v.out e

abbrev pub head_no : {A : Type 0} → List (ℕ × A) → ℕ
head_no [] = 0
head_no (x ∷ xs) = x.0

pub first_same : (a b : ℕ) (x y : Letter) (xs ys : List (ℕ × Letter)) → (a, x) ∷ xs ≡ (b, y) ∷ ys → a ≡ b
first_same a b x y xs ys e = ap (λ (z : List (ℕ × Letter)). head_no z) e

pub first_wanted : (a b : ℕ) (x y : Wanted) (xs ys : List (ℕ × Wanted)) → (a, x) ∷ xs ≡ (b, y) ∷ ys → a ≡ b
first_wanted a b x y xs ys e = ap (λ (z : List (ℕ × Wanted)). head_no z) e
