-- Lists of nodes as they begin and end a plan.
use Rattle.std.specs.Prelude.{◌≡◌, ◌⊎◌, refl, ℕ, zero, suc, ◌<◌, List, [], ◌∷◌, ◌++◌, Some, length, map, slice_get}
use Rattle.std.proofs.Common.{ap, sym, ◌∙◌, arith, inl, inr, subst}
use Rattle.std.proofs.lemmas.List.{length-map, map-id}
use Rattle.bsp_core.specs.Lockstep.{IsEnd, upto}
use Rattle.bsp_core.specs.Turns.{Begins}
use Rattle.bsp_core.specs.Views.{Face, View}
use Rattle.bsp_desk.specs.Rounds.{Round}
use Rattle.bsp_desk.specs.Uniform.{letters_of, rows_of, uniform_end, uniform_letters}

-- ---- the beginning

pub pushed : {X : Type 0} (xs : List X) (x v : X) (k : ℕ) → slice_get (xs ++ x ∷ []) k ≡ Some v
    → (slice_get xs k ≡ Some v) ⊎ ((k ≡ length xs) × (v ≡ x))
pushed [] x v zero e = inr (refl, (let h : v ≡ x = cc in h))
pushed [] x v (suc k) e = absurd (cc)
pushed (y ∷ ys) x v zero e = inl e
pushed (y ∷ ys) x v (suc k) e = elim (pushed ys x v k e) [ inl a ↦ inl a | inr b ↦ inr (ap suc b.0, b.1) ]

-- each of these nodes stands as its place says
abbrev pub StandBy : {S : Type 0} → (ℕ → View S → Type 0) → List (View S) → Type 0
StandBy {S} Stands nodes = (k : ℕ) (v : View S) → slice_get nodes k ≡ Some v → Stands k v

-- one node more does
pub stand_more : {S : Type 0} (Stands : ℕ → View S → Type 0) (nodes new : List (View S)) (node : View S) (id : ℕ) → length nodes ≡ id
    → StandBy Stands nodes → Stands id node → new ≡ nodes ++ node ∷ [] → StandBy Stands new
stand_more {S} Stands nodes new node id long all one is k v h =
    elim (pushed nodes node v k (subst (λ (z : List (View S)). slice_get z k ≡ Some v) is h)) [
      | inl a ↦ all k v a
      | inr b ↦ subst (λ (w : View S). Stands k w) (sym b.1) (subst (λ j. Stands j node) (sym (b.0 ∙ long)) one)
    ]

-- so they begin the plan
pub nodes_begin : {S : Type 0} (rows : ℕ → ℕ → Face) (holds : ℕ → ℕ → S → Type 0) (n : ℕ) (nodes : List (View S)) → length nodes ≡ n
    → StandBy (λ k v. (v.face ≡ rows 0 k) × holds 0 k v.state) nodes → Begins rows holds n (map (λ (s : View S). s) nodes)
nodes_begin {S} rows holds n nodes long all = (
  length-map nodes (λ (s : View S). s) ∙ long,
  λ p v e. all p v (subst (λ (z : List (View S)). slice_get z p ≡ Some v) (map-id nodes) e),
)

-- ---- the end

-- up to the end each pair has the letters of all rounds
pub uniform_due : (n phases : ℕ) (rounds : ℕ → Round) (end p q : ℕ) → q < n → IsEnd (rows_of n phases rounds) end
    → upto (rows_of n phases rounds) p q end ≡ letters_of phases rounds p q
uniform_due n phases rounds end p q less is =
    ap (upto (rows_of n phases rounds) p q) (uniform_end n phases rounds end is)
    ∙ uniform_letters n phases rounds p q phases less (omega arith)

-- as many nodes begin as the plan has
pub nodes_count : {S : Type 0} (rows : ℕ → ℕ → Face) (holds : ℕ → ℕ → S → Type 0) (n : ℕ) (nodes : List (View S))
    → Begins rows holds n (map (λ (s : View S). s) nodes) → length nodes ≡ n
nodes_count {S} rows holds n nodes begin = sym (length-map nodes (λ (s : View S). s)) ∙ begin.0

-- the first of them, also as it is seen
pub first_node : {S : Type 0} (nodes : List (View S)) → 0 < length (map (λ (s : View S). s) nodes)
    → (v : View S) × (slice_get nodes 0 ≡ Some v) × (slice_get (map (λ (s : View S). s) nodes) 0 ≡ Some v)
first_node [] some = absurd (omega (arith, some))
first_node (v ∷ nodes) some = (v, refl, refl)
