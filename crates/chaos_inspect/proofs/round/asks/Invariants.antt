use Rattle.std.proofs.Common.{◌≡◌, ◌+◌, drop}
use Rattle.chaos_inspect.proofs.Rounds.{asks_any}
use Rattle.chaos_inspect.proofs.round.asks.Given as goal

abbrev pub invariant-loop-reference : goal.invariant-loop-reference
invariant-loop-reference l = record {
  number : l.number ≡ l.reference-index + 1;
  rest : asks_any l.facts l.asking l.number (drop l.reference-index l.references) ≡ asks_any l.facts l.asking 1 l.references;
}
