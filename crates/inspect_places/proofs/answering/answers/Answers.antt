use Rattle.std.proofs.Common.{ap, ◌∙◌, map}
use Rattle.std.proofs.lemmas.Result.{IfOk-weaker}
use Rattle.inspect_places.specs.Telling.{told_by}
use Rattle.inspect_places.proofs.Letters.{answers_are}
use Rattle.inspect_places.proofs.answering.answers.Goals as goal

pub returns : goal.returns
returns c =
    let f = c.args.facts.now in
    IfOk-weaker c.answer_all.result _ _ (λ lists e owners store me asking owned told is.
    e
    ∙ ap (λ p. map (told_by p) c.as_slice-asked.result.now) c.as_slice-pages.ensures
    ∙ ap (map (told_by c.args.pages.now)) c.as_slice-asked.ensures
    ∙ answers_are f owners c.args.pages.now me c.requires.accepted owned told store asking c.args.asked.now is) c.answer_all.ensures
