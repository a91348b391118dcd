-- Nodes pushed one after another.
use Rattle.std.specs.Prelude.{◌≡◌, ℕ, ◌+◌, List, [], ◌∷◌, ◌++◌, length}
use Rattle.std.proofs.Common.{ap, ◌∙◌}
use Rattle.std.proofs.lemmas.List.{length_push}
use Rattle.bsp_core.specs.Views.{View}
use Rattle.bsp_desk.specs.Nodes.{StandBy, stand_more}
use Rattle.chaos_bins.specs.Plan.{AppendPlan, append_rows}
use Rattle.append_node.specs.Node.{AppendState, append_holds}

-- a node of a plan as it begins
abbrev pub StandsFirst : AppendPlan → ℕ → View AppendState → Type 0
StandsFirst plan k v = (v.face ≡ append_rows plan 0 k) × append_holds plan 0 k v.state

abbrev pub AllBegin : AppendPlan → List (View AppendState) → Type 0
AllBegin plan nodes = StandBy (StandsFirst plan) nodes

pub one_more : (plan : AppendPlan) (nodes new : List (View AppendState)) (node : View AppendState) (id : ℕ) → length nodes ≡ id
    → AllBegin plan nodes → StandsFirst plan id node → new ≡ nodes ++ node ∷ [] → (length new ≡ id + 1) × AllBegin plan new
one_more plan nodes new node id long all one is =
    (ap length is ∙ length_push nodes node ∙ ap (λ n. n + 1) long, stand_more (StandsFirst plan) nodes new node id long all one is)
