use Rattle.std.proofs.Common.{ap, ◌∙◌, map, replicate, List, ℤ, ℕ}
use Rattle.std.proofs.lemmas.Result.{IfOk-weaker}
use Rattle.inspect_places.specs.Dealing.{draws}
use Rattle.inspect_places.specs.Telling.{place_told, told_all}
use Rattle.inspect_places.proofs.Orders.{places_are}
use Rattle.inspect_places.proofs.asked.Asked.places.Goals as goal

pub returns : goal.returns
returns c =
    let f = c.args.facts.now in
    IfOk-weaker c.place_all.result _ _ (λ places e uses owners is owned answered.
    e
    ∙ ap (λ (l : List (List ℤ)). map place_told (draws l (replicate 128 0) c.as_slice-decompositions.result.now)) (c.in_ok-told.ensures
    ∙ ap (told_all c.args.answers.now (replicate 16 0)) c.as_slice-wanted.ensures)
    ∙ ap (λ (ks : List ℕ). map place_told (draws (told_all c.args.answers.now (replicate 16 0) c.args.self.now.wanted) (replicate 128 0)
    ks)) c.as_slice-decompositions.ensures
    ∙ places_are f owners c.requires.accepted owned uses c.args.self.now c.args.answers.now is answered) c.place_all.ensures
