use Rattle.std.proofs.Common.{◌≡◌, ℕ, length, slice_get, Some}
use Rattle.bsp_core.specs.Views.{View}
use Rattle.chaos_bins.specs.Plan.{append_rows}
use Rattle.append_node.specs.Node.{AppendState, append_holds, plan_of}
use Rattle.append_node.proofs.nodes.append_nodes.Given as goal

abbrev pub invariant-loop-id : goal.invariant-loop-id
invariant-loop-id l =
    (length l.nodes ≡ l.id)
    × ((k : ℕ) (v : View AppendState) → slice_get l.nodes k ≡ Some v
    → (v.face ≡ append_rows (plan_of l.job l.bins l.values) 0 k) × append_holds (plan_of l.job l.bins l.values) 0 k v.state)
