-- That a change can be made, and what a node's fields tell of its view.
use Rattle.std.specs.Prelude.{◌≡◌, ℕ, ◌+◌, ◌-◌, ◌<◌, ◌≤◌, ◌^◌, List, Option}
use Rattle.std.proofs.Common.{ap, sym, ◌∙◌, subst, arith}
use Rattle.bsp_core.specs.Views.{View, next_of}
use Rattle.bsp_core.specs.declared.phased.Want.TheVariants.{Work}
use Rattle.chaos_entering.specs.Coming.{CanStand}
use Rattle.chaos_entering.specs.State.{NodeState}
use Rattle.chaos_holdings.specs.Keeping.{prepared_in}
use Rattle.chaos_node.specs.Changing.{CanBeMade}
use Rattle.chaos_node.specs.Printed.{work_left}
use Rattle.chaos_node.specs.declared.change.Change.{Change}
use Rattle.plan_run.specs.declared.kept.Kept.{Kept}
use Rattle.chaos_sched.specs.declared.prepared.Prepared.{Prepared}

-- where work is due, a phase is left
pub some_left : (v : View NodeState) → next_of v.face ≡ Work → 1 ≤ v.face.left
some_left v work = work_left v.face.left v.face.due v.face.out work

pub some_inside : (v w : View NodeState) → v ≡ w → next_of w.face ≡ Work → 1 ≤ v.face.left
some_inside v w same work = subst (λ (x : View NodeState). 1 ≤ x.face.left) (sym same) (some_left w work)

-- the phases left are those behind this one and this one
pub one_behind : (v w : View NodeState) → v ≡ w → next_of w.face ≡ Work → (v.face.left - 1) + 1 ≡ w.face.left
one_behind v w same work =
    let some = some_inside v w same work in
    let back : (v.face.left - 1) + 1 ≡ v.face.left = omega (arith, some) in
    back ∙ ap (λ (x : View NodeState). x.face.left) same

below_next : (e k left : ℕ) → e ≤ k → k + 1 ≡ left → e < left
below_next e k left less is = omega (arith, less, is)

-- a change whose phase can stand can be made
pub made_by : (v w : View NodeState) (me k : ℕ) (change : Change) → v ≡ w → me ≡ w.face.me → k + 1 ≡ w.face.left
    → CanStand me v.face.count change.entered
    → change.entered.left ≤ k → CanBeMade w change
made_by v w me k change same node behind stands less = record {
  stands = subst (λ n. CanStand w.face.me n change.entered) (ap (λ (x : View NodeState). x.face.count) same)
      (subst (λ n. CanStand n v.face.count change.entered) node stands);
  falls = below_next change.entered.left k w.face.left less behind;
}

-- the end can be made
pub made_end : (v : View NodeState) (change : Change) → next_of v.face ≡ Work → CanStand v.face.me v.face.count change.entered
    → change.entered.left ≡ 0 → CanBeMade v change
made_end v change work stands none =
    let some = some_left v work in
    record {
      stands = stands;
      falls = omega (arith, some, none);
    }

-- what is kept of the FORALL of the phase
pub kept_same : (v w : View NodeState) (slice : List (Option Kept)) (o : Option Prepared) → v ≡ w → slice ≡ v.state.holdings.kept
    → o ≡ prepared_in slice v.state.at.site
    → prepared_in w.state.holdings.kept w.state.at.site ≡ o
kept_same v w slice o same is found =
    subst (λ (x : View NodeState). prepared_in x.state.holdings.kept x.state.at.site ≡ o) same
    (ap (λ (l : List (Option Kept)). prepared_in l v.state.at.site) (sym is) ∙ sym found)

pub behind_small : (v w : View NodeState) (k : ℕ) → v ≡ w → w.face.left ≡ k + 1 → v.face.left < 2 ^ 31 → k < 2 ^ 31
behind_small v w k same is few =
    let left : v.face.left ≡ w.face.left = ap (λ (x : View NodeState). x.face.left) same in
    omega (arith, left, is, few)
