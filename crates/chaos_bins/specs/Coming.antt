-- What a node makes of what it has and took, in a plan.
use Rattle.std.specs.Prelude.{◌≡◌, ◌≢◌, ◌⊎◌, ℕ, zero, suc, ◌+◌, ◌-◌, ◌==◌, ◌≤◌, ◌<◌, cond, not, ℤ, if◌then◌else◌, List, []}
use Rattle.std.specs.Prelude.{◌∷◌, Option, Some, None, map, filter, flat_map, nat_lt, slice_get}
use Rattle.std.specs.List.{range_with_len}
use Rattle.std.proofs.Common.{ap, sym, ◌∙◌, arith, inl, inr}
use Rattle.std.proofs.lemmas.Bool.{cases_eq, cases_lt, le-ltb, lt-ltb}
use Rattle.chaos_letter.specs.declared.letter.Letter.{Letter}
use Rattle.list_laws.specs.Tests.{other_number, same_number}
use Rattle.chaos_dist.specs.Counting.{below}
use Rattle.chaos_bins.specs.Plan.{flat, pairs_in}
use Rattle.chaos_bins.specs.PlanLaws.{pairs_in-flat}
use Rattle.chaos_bins.specs.Rounds.{flat_map-same}

-- the numbers of a letter, none where there is none
abbrev pub numbers_of : Option Letter → List ℤ
numbers_of None = []
numbers_of (Some x) = x.numbers

-- where the letter of q stands among those of all nodes but `me`
abbrev pub place_among : ℕ → ℕ → ℕ
place_among me q = if nat_lt q me then q else q - 1

-- the numbers that q told
abbrev pub told : ℕ → List Letter → ℕ → List ℤ
told me got q = numbers_of (slice_get got (place_among me q))

-- and those of each node, `own` in its own place
abbrev pub part_of : ℕ → List ℤ → List Letter → ℕ → List ℤ
part_of me own got q = if q == me then own else told me got q

-- all pairs that a node has behind a phase, those of each node in turn
abbrev pub all_pairs : ℕ → ℕ → List ℤ → List Letter → List (ℤ × ℤ)
all_pairs n me own got = flat_map (λ q. pairs_in (part_of me own got q)) (below n)

-- ---- the letter of q is at its place

-- q stands at place j of the numbers from a on without `me`
abbrev IsPlaceFrom : ℕ → ℕ → ℕ → ℕ → Type 0
IsPlaceFrom me a q j = (((me < a) ⊎ (q < me)) × (j + a ≡ q)) ⊎ ((a ≤ me) × (me < q) × (j + a + 1 ≡ q))

past_me : (me a q j : ℕ) → a ≡ me → a ≤ q → IsPlaceFrom me a q j → IsPlaceFrom me (a + 1) q j
past_me me a q j e l (inl p) = absurd (elim p.0 [ inl x ↦ omega (arith, x, e) | inr x ↦ omega (arith, x, e, l) ])
past_me me a q j e l (inr p) = inl (inl (omega (arith, e)), omega (arith, p.2))

one_on : (me a q j : ℕ) → a ≢ me → IsPlaceFrom me a q (suc j) → IsPlaceFrom me (a + 1) q j
one_on me a q j e (inl p) = inl (elim p.0 [ inl x ↦ inl (omega (arith, x)) | inr x ↦ inr x ], omega (arith, p.1))
one_on me a q j e (inr p) = inr (omega (arith, e, p.0), p.1, omega (arith, p.2))

at_first : (me a q : ℕ) → a ≢ me → IsPlaceFrom me a q 0 → a ≡ q
at_first me a q e (inl p) = omega (arith, p.1)
at_first me a q e (inr p) = absurd (omega (arith, e, p.0, p.1, p.2))

further : (me a q j : ℕ) → IsPlaceFrom me a q (suc j) → a + 1 ≤ q
further me a q j (inl p) = omega (arith, p.1)
further me a q j (inr p) = omega (arith, p.2)

abbrev pub others_from : ℕ → ℕ → ℕ → List ℕ
others_from me a k = filter (λ i. not (i == me)) (range_with_len a k)

front_or_rest : (f : ℕ → Letter) (me a k q j : ℕ) → a ≢ me → IsPlaceFrom me a q j
    → ((i : ℕ) → a + 1 ≤ q → IsPlaceFrom me (a + 1) q i → slice_get (map f (others_from me (a + 1) k)) i ≡ Some (f q))
    → slice_get (f a ∷ map f (others_from me (a + 1) k)) j ≡ Some (f q)
front_or_rest f me a k q zero e at rest = ap (λ i. Some (f i)) (at_first me a q e at)
front_or_rest f me a k q (suc j) e at rest = rest j (further me a q j at) (one_on me a q j e at)

one_taken : (f : ℕ → Letter) (me a k q j : ℕ) → a ≤ q → q < a + k → q ≢ me → IsPlaceFrom me a q j
    → slice_get (map f (others_from me a k)) j ≡ Some (f q)
one_taken f me a zero q j l h apart at = absurd (omega (arith, l, h))
one_taken f me a (suc k) q j l h apart at =
    let rest = others_from me (a + 1) k in
    let high : q < a + 1 + k = omega (arith, h) in
    elim (cases_eq a me) [
      | inl e ↦
          let more : a + 1 ≤ q = omega (arith, l, e, apart) in
          ap (λ b. slice_get (map f (cond (not b) (a ∷ rest) rest)) j) (ap (λ k. k == me) e ∙ same_number me)
          ∙ one_taken f me (a + 1) k q j more high apart (past_me me a q j e l at)
      | inr e ↦
          ap (λ b. slice_get (map f (cond (not b) (a ∷ rest) rest)) j) (other_number a me e)
          ∙ front_or_rest f me a k q j e at (λ i more place. one_taken f me (a + 1) k q i more high apart place)
    ]

in_place : (me q : ℕ) → q ≢ me → IsPlaceFrom me 0 q (place_among me q)
in_place me q apart =
    elim (cases_lt q me) [
      | inl less ↦
          let e : place_among me q ≡ q = ap (λ b. cond b q (q - 1)) (lt-ltb q me less) in
          inl (inr less, omega (arith, e))
      | inr more ↦
          let e : place_among me q ≡ q - 1 = ap (λ b. cond b q (q - 1)) (le-ltb q me more) in
          inr (omega arith, omega (arith, more, apart), omega (arith, e, more, apart))
    ]

-- what q told, where a node took the letters of all others in their order
pub told_is : (f : ℕ → Letter) (me n q : ℕ) → q < n → q ≢ me → told me (map f (others_from me 0 n)) q ≡ (f q).numbers
told_is f me n q low apart = ap numbers_of (one_taken f me 0 n q (place_among me q) (omega arith) (omega (arith, low)) apart
    (in_place me q apart))

part_is : (f : ℕ → Letter) (me n : ℕ) (own : List ℤ) (numbers : ℕ → List ℤ) → ((q : ℕ) → (f q).numbers ≡ numbers q) → own ≡ numbers me
    → (q : ℕ) → q < n → part_of me own (map f (others_from me 0 n)) q ≡ numbers q
part_is f me n own numbers same here q low =
    let got = map f (others_from me 0 n) in
    elim (cases_eq q me) [
      | inl e ↦ ap (λ b. cond b own (told me got q)) (ap (λ k. k == me) e ∙ same_number me) ∙ here ∙ ap numbers (sym e)
      | inr e ↦ ap (λ b. cond b own (told me got q)) (other_number q me e) ∙ told_is f me n q low e ∙ same q
    ]

-- all pairs that a node has, where it has its own rows and took the others' rows
pub pairs_are : (f : ℕ → Letter) (me n : ℕ) (own : List ℤ) (got : List Letter) (rows : ℕ → List (ℤ × ℤ))
    → ((q : ℕ) → (f q).numbers ≡ flat (rows q)) → own ≡ flat (rows me) → got ≡ map f (others_from me 0 n)
    → all_pairs n me own got ≡ flat_map rows (below n)
pairs_are f me n own got rows same here is =
    ap (all_pairs n me own) is
    ∙ flat_map-same (λ q. pairs_in (part_of me own (map f (others_from me 0 n)) q)) rows 0 n
    (λ q l m. ap pairs_in (part_is f me n own (λ r. flat (rows r)) same here q (omega (arith, m))) ∙ pairs_in-flat (rows q))
