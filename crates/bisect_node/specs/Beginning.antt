-- Nodes as their first phase begins.
use Rattle.std.specs.Prelude.{◌≡◌, ℕ, List, [], ◌∷◌, ◌++◌, length, Some, slice_get}
use Rattle.std.proofs.Common.{subst, arith}
use Rattle.bsp_core.specs.Views.{View}
use Rattle.bsp_desk.specs.Nodes.{stand_more}
use Rattle.chaos_cut.specs.Bisection.{Axes}
use Rattle.bisect_node.specs.ListLaws.{get-within}
use Rattle.bisect_node.specs.Plans.{BisectPlan, IsBisectPlan, IsOfJob, bisect_rows}
use Rattle.bisect_node.specs.States.{BisectState, bisect_holds}
use Rattle.bisect_node.specs.declared.job.Job.{Job}

-- node k of a plan, as the first phase begins
abbrev pub BeginsAs : BisectPlan → ℕ → View BisectState → Type 0
BeginsAs plan k v = (v.face ≡ bisect_rows plan 0 k) × bisect_holds plan 0 k v.state

-- these nodes of a job with these coordinates, in order
abbrev pub AllBegin : Job → Axes → List (View BisectState) → Type 0
AllBegin job axes nodes =
    (plan : BisectPlan) → IsBisectPlan plan → IsOfJob job plan → plan.axes ≡ axes
    → (k : ℕ) (v : View BisectState) → slice_get nodes k ≡ Some v → BeginsAs plan k v

pub none-begins : (job : Job) (axes : Axes) (nodes : List (View BisectState)) → nodes ≡ [] → AllBegin job axes nodes
none-begins job axes nodes none plan h of is k v e =
    let less = get-within [] k v (subst (λ (l : List (View BisectState)). slice_get l k ≡ Some v) none e) in
    absurd (omega (arith, less))

pub one-more : (job : Job) (axes : Axes) (nodes new : List (View BisectState)) (made : View BisectState) (p : ℕ) → length nodes ≡ p
    → new ≡ nodes ++ made ∷ [] → AllBegin job axes nodes
    → ((plan : BisectPlan) → IsBisectPlan plan → IsOfJob job plan → plan.axes ≡ axes → BeginsAs plan p made) → AllBegin job axes new
one-more job axes nodes new made p long more before begins plan h of is =
    stand_more (BeginsAs plan) nodes new made p long (before plan h of is) (begins plan h of is) more
