use Rattle.std.proofs.Common.{◌≡◌, replicate, [], drop}
use Rattle.inspect_places.specs.Telling.{asks_onto}
use Rattle.inspect_places.proofs.asks.ask_all.Given as goal

abbrev pub invariant-loop-list : goal.invariant-loop-list
invariant-loop-list l = record {
  at : l.d ≡ l.list-index;
  rest : asks_onto l.d l.lists (drop l.list-index l.wanted) ≡ asks_onto 0 (replicate l.nodes []) l.wanted;
}
