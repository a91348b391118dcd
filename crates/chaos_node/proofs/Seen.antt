-- What is told of a node's change, from what is known of the node's inside.
use Rattle.std.specs.Prelude.{◌≡◌, ℕ, ◌+◌, ◌-◌, ◌<◌, ◌≤◌, ◌^◌, ℤ, List, []}
use Rattle.std.proofs.Common.{sym, subst}
use Rattle.bsp_core.specs.Views.{View, next_of}
use Rattle.bsp_core.specs.declared.phased.Want.TheVariants.{Work}
use Rattle.chaos_begin.specs.declared.between.Between.{Between}
use Rattle.chaos_entering.specs.Coming.{CanStand}
use Rattle.chaos_entering.specs.State.{NodeState}
use Rattle.chaos_entering.specs.declared.entered.Entered.{Entered}
use Rattle.chaos_holdings.specs.declared.effect.Effect.{Effect}
use Rattle.chaos_node.specs.Changing.{CanBeMade, ChangesRight}
use Rattle.chaos_node.specs.Ends.{LooksWith}
use Rattle.chaos_node.specs.Kept.{shown_node}
use Rattle.chaos_node.specs.Printed.{falls_one, work_left}
use Rattle.chaos_node.specs.declared.change.Change.{Change}
use Rattle.chaos_node.specs.declared.node.Node.TheInside.{Inside}
use Rattle.chaos_records.specs.declared.records.Records.{Records}

abbrev writing : Effect → Entered → List ℕ → Change
writing effect e line = record { effect = effect; line = line; entered = e }

-- where the line is empty
pub no_line : (v : View NodeState) (effect : Effect) (e : Entered) (line : List ℕ) → line ≡ []
    → ChangesRight v (record { effect = effect; line = []; entered = e })
    → ChangesRight v (record { effect = effect; line = line; entered = e })
no_line v effect e line none right = subst (λ l. ChangesRight v (writing effect e l)) (sym none) right

-- a node that works has a phase left
pub has_left : (s : Inside) (v : View NodeState) → shown_node s ≡ v → next_of v.face ≡ Work → 1 ≤ s.left
has_left s v same work = work_left s.left s.due.items s.out.items (subst (λ (x : View NodeState). next_of x.face ≡ Work) (sym same) work)

pub made_seen : (s : Inside) (v : View NodeState) (change : Change) → shown_node s ≡ v → CanStand s.me s.session.now.nodes change.entered
    → change.entered.left < s.left
    → CanBeMade v change
made_seen s v change same stands falls = subst (λ x. CanBeMade x change) same (record { stands = stands; falls = falls })

-- with a phase less
pub less_made : (s : Inside) (v : View NodeState) (change : Change) → shown_node s ≡ v → next_of v.face ≡ Work
    → CanStand s.me s.session.now.nodes change.entered
    → change.entered.left ≤ s.left - 1 → CanBeMade v change
less_made s v change same work stands falls = made_seen s v change same stands
    (falls_one change.entered.left s.left (has_left s v same work) falls)

pub right_seen : (s : Inside) (v : View NodeState) (change : Change) → shown_node s ≡ v → ChangesRight (shown_node s) change
    → ChangesRight v change
right_seen s v change same right = subst (λ x. ChangesRight x change) same right

-- what is looked at
pub look_seen : (s : Inside) (v : View NodeState) (elements parts : List (List ℤ)) (records : Records) (b : Between) → shown_node s ≡ v
    → LooksWith v.state v.face.me elements parts records b → LooksWith (shown_node s).state s.me elements parts records b
look_seen s v elements parts records b same look = subst (λ (x : View NodeState). LooksWith x.state x.face.me elements parts records b)
    (sym same) look

pub number_seen : (s : Inside) (v : View NodeState) (number : ℕ) → shown_node s ≡ v
    → (v.state.at.execution < 2 ^ 32 → number ≡ v.state.at.execution + 1)
    → s.at.execution < 2 ^ 32 → number ≡ s.at.execution + 1
number_seen s v number same counts = subst (λ (x : View NodeState). x.state.at.execution < 2 ^ 32 → number ≡ x.state.at.execution + 1)
    (sym same) counts
