use Rattle.std.proofs.Common.{◌≡◌, ℕ, length, slice_get, Some}
use Rattle.bsp_example.specs.Rows.{VoterState, voter_row, voter_holds}
use Rattle.bsp_core.specs.Views.{View}
use Rattle.bsp_example.proofs.runs.voter_list.Given as goal

abbrev pub invariant-loop-p : goal.invariant-loop-p
invariant-loop-p l = (length l.nodes ≡ l.p) × ((k : ℕ) (v : View VoterState) → slice_get l.nodes k ≡ Some v
    → (v.face ≡ voter_row l.flags 0 k) × voter_holds l.flags 0 k v.state)
