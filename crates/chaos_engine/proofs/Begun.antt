-- Nodes that begin a plan.
use Rattle.std.specs.Prelude.{◌≡◌, refl, ℕ, zero, suc, ◌+◌, ◌⊎◌, ℤ, List, [], ◌∷◌, ◌++◌, length, map, slice_get, Some}
use Rattle.std.proofs.Common.{ap, sym, ◌∙◌, subst, inl, inr}
use Rattle.std.proofs.lemmas.List.{length_push, length-map, map-id}
use Rattle.bsp_core.specs.Turns.{Begins}
use Rattle.bsp_core.specs.Views.{View}
use Rattle.chaos_entering.specs.Standing.{node_holds, session_in}
use Rattle.chaos_holdings.specs.Starting.{block_owners}
use Rattle.chaos_entering.specs.State.{NodeState}
use Rattle.chaos_holdings.specs.declared.session.Session.{Session}
use Rattle.plan_run.specs.Rows.{IsRunPlan, RunPlan, node_row}
use Rattle.fd_program.specs.Places.{parts_of}
use Rattle.chaos_engine.specs.Runs.{IsAdmitted, plan_of}

-- a node that stands at the beginning of a plan
abbrev pub StandsFirst : RunPlan → ℕ → View NodeState → Type 0
StandsFirst plan k v = (v.face ≡ node_row plan 0 k) × node_holds plan 0 k v.state

abbrev pub Begun : Session → List (List ℤ) → List (View NodeState) → Type 0
Begun s store nodes =
    (plan : RunPlan) → IsRunPlan plan → s ≡ session_in plan → store ≡ plan.store → (k : ℕ) (v : View NodeState)
    → slice_get nodes k ≡ Some v → StandsFirst plan k v

pushed : {X : Type 0} (xs : List X) (x v : X) (k : ℕ) → slice_get (xs ++ x ∷ []) k ≡ Some v → (slice_get xs k ≡ Some v)
    ⊎ ((k ≡ length xs) × (v ≡ x))
pushed [] x v zero e = inr (refl, (let h : v ≡ x = cc in h))
pushed [] x v (suc k) e = absurd (cc)
pushed (y ∷ ys) x v zero e = inl e
pushed (y ∷ ys) x v (suc k) e = elim (pushed ys x v k e) [ inl a ↦ inl a | inr b ↦ inr (ap suc b.0, b.1) ]

-- one node more
pub begun_more : (s : Session) (store : List (List ℤ)) (nodes new : List (View NodeState)) (id : ℕ) (own : List (List ℤ))
    (node : View NodeState) → length nodes ≡ id → Begun s store nodes
    → own ≡ parts_of s.checked.arrays (block_owners s.nodes s.checked.layouts) store id
    → ((plan : RunPlan) → IsRunPlan plan → s ≡ session_in plan
    → own ≡ parts_of plan.checked.arrays (block_owners plan.nodes plan.checked.layouts) plan.store id → StandsFirst plan id node)
    → new ≡ nodes ++ node ∷ [] → (length new ≡ id + 1) × Begun s store new
begun_more s store nodes new id own node size before own_is start more = (
  ap length more ∙ length_push nodes node ∙ ap (λ n. n + 1) size,
  λ plan is session store_is k v here.
      let told : own ≡ parts_of plan.checked.arrays (block_owners plan.nodes plan.checked.layouts) plan.store id =
      own_is ∙ ap (λ (x : Session). parts_of x.checked.arrays (block_owners x.nodes x.checked.layouts) store id) session
      ∙ ap (λ st. parts_of plan.checked.arrays (block_owners plan.nodes plan.checked.layouts) st id) store_is in
      elim (pushed nodes node v k (subst (λ (l : List (View NodeState)). slice_get l k ≡ Some v) more here)) [
        | inl a ↦ before plan is session store_is k v a
        | inr b ↦ subst (λ n. StandsFirst plan n v) (sym (b.0 ∙ size)) (subst (StandsFirst plan id) (sym b.1) (start plan is session told))
      ],
)

pub begins : (s : Session) (store : List (List ℤ)) (nodes : List (View NodeState)) → length nodes ≡ s.nodes → Begun s store nodes
    → (plan : RunPlan) → IsRunPlan plan → s ≡ session_in plan → store ≡ plan.store → Begins (node_row plan) (node_holds plan) plan.nodes
    (map (λ (v : View NodeState). v) nodes)
begins s store nodes size begun plan is session store_is = (
  length-map nodes (λ (v : View NodeState). v) ∙ size ∙ ap (λ (x : Session). x.nodes) session,
  λ p v e. begun plan is session store_is p v (subst (λ (l : List (View NodeState)). slice_get l p ≡ Some v) (map-id nodes) e),
)

pub admitted : (s : Session) (store : List (List ℤ)) → IsAdmitted s store → IsRunPlan (plan_of s store)
admitted s store h = record { some = h.some; few = h.few; checked = h.checked; within = h.within; store = h.fits }

pub session_is : (s : Session) (store : List (List ℤ)) → IsAdmitted s store → s ≡ session_in (plan_of s store)
session_is s store h = ap (λ t. let x : Session = record { checked = s.checked; trace = t; nodes = s.nodes; rule = s.rule } in x) h.trace
