use Rattle.std.proofs.Common.{◌≡◌, length}
use Rattle.chaos_engine.proofs.Begun.{Begun}
use Rattle.chaos_engine.proofs.turns.nodes_of.Given as goal

abbrev pub invariant-loop-id : goal.invariant-loop-id
invariant-loop-id l = (length l.nodes ≡ l.id) × Begun l.session l.store l.nodes
