use Rattle.std.proofs.Common.{ap, ◌∙◌, replicate, []}
use Rattle.std.proofs.lemmas.Result.{IfOk-weaker}
use Rattle.inspect_places.specs.Telling.{asks_onto}
use Rattle.inspect_places.proofs.Orders.{asks_are}
use Rattle.inspect_places.proofs.asked.Asked.asks.Goals as goal

pub returns : goal.returns
returns c =
    let f = c.args.facts.now in
    IfOk-weaker c.ask_all.result _ _ (λ lists e uses is. e ∙ ap (asks_onto 0 (replicate f.nodes [])) c.as_slice.ensures
    ∙ asks_are f uses c.args.self.now is) c.ask_all.ensures
