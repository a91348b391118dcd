use Rattle.std.proofs.Common.{ap, ◌∙◌}
use Rattle.std.proofs.lemmas.Result.{IfOk-weaker}
use Rattle.list_laws.specs.Rows.{deals}
use Rattle.chaos_inspect.specs.Walking.{spot_ask}
use Rattle.chaos_inspect.specs.declared.spot.Spot.{Spot}
use Rattle.chaos_inspect.proofs.Fetching.{asks_right}
use Rattle.chaos_inspect.proofs.inspection.Inspection.asks.Goals as goal

pub returns : goal.returns
returns c =
    let x = c.args.self.now in
    IfOk-weaker c.asks.result _ _ (λ lists e owners store tables level h spots.
    e ∙ ap (deals (λ (s : Spot). s.owner) spot_ask x.facts.nodes) (c.as_slice.ensures ∙ spots)
    ∙ asks_right x.facts owners store level x.me c.requires h.owned) c.asks.ensures
