use Rattle.std.proofs.Common.{◌∙◌}
use Rattle.std.proofs.lemmas.Result.{IfOk-weaker}
use Rattle.inspect_places.specs.Laws.{uses_wanted}
use Rattle.inspect_places.proofs.Letters.{asks_sent}
use Rattle.chaos_inspect.proofs.inspection.Inspection.place_asks.Goals as goal

pub returns : goal.returns
returns c =
    let x = c.args.self.now in
    IfOk-weaker c.asks.result _ _ (λ lists e owners store asking h.
    e (uses_wanted x.facts owners store asking x.me) h.0 ∙ asks_sent x.facts owners store asking x.me) c.asks.ensures
