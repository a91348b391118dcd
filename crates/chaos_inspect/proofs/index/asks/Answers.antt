use Rattle.std.proofs.Common.{sym, ◌∙◌}
use Rattle.std.proofs.lemmas.List.{at_drop_all}
use Rattle.list_laws.specs.Rows.{dealt_onto, dealt_all}
use Rattle.chaos_inspect.specs.Walking.{spot_ask}
use Rattle.chaos_inspect.specs.declared.spot.Spot.{Spot}
use Rattle.chaos_inspect.proofs.index.asks.Goals as goal

pub returns : goal.returns
returns c =
    sym (at_drop_all (dealt_onto (λ (s : Spot). s.owner) spot_ask c.loop-spot.lists) c.args.spots.now c.loop-spot.spot-index
    c.loop-spot-test.false)
    ∙ c.loop-spot.invariant
    ∙ dealt_all (λ (s : Spot). s.owner) spot_ask c.args.nodes c.args.spots.now
