use Rattle.std.proofs.Common.{◌≡◌, drop, replicate, []}
use Rattle.list_laws.specs.Rows.{dealt_onto}
use Rattle.chaos_inspect.specs.Walking.{spot_ask}
use Rattle.chaos_inspect.specs.declared.spot.Spot.{Spot}
use Rattle.chaos_inspect.proofs.index.asks.Given as goal

abbrev pub invariant-loop-spot : goal.invariant-loop-spot
invariant-loop-spot l =
    dealt_onto (λ (s : Spot). s.owner) spot_ask l.lists (drop l.spot-index l.spots) ≡ dealt_onto (λ (s : Spot). s.owner) spot_ask
    (replicate l.nodes []) l.spots
