use Rattle.std.proofs.Common.{◌∙◌, sym}
use Rattle.std.proofs.lemmas.Result.{IfOk-weaker}
use Rattle.inspect_places.specs.Laws.{uses_wanted}
use Rattle.inspect_places.proofs.Letters.{answers_owed}
use Rattle.chaos_inspect.proofs.inspection.Inspection.told.Goals as goal

pub returns : goal.returns
returns c =
    let x = c.args.self.now in
    IfOk-weaker c.places.result _ _ (λ places e owners store asking owned h taken.
    e (uses_wanted x.facts owners store asking x.me) owners h.0 owned (taken ∙ sym (answers_owed x.facts owners store asking x.me)))
    c.places.ensures
