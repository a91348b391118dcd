use Rattle.std.proofs.Common.{List, map, ap, ◌∙◌, slice_set, Vec}
use Rattle.std.proofs.lemmas.List.{map-set}
use Rattle.chaos_letter.specs.declared.letter.Letter.{Letter}
use Rattle.chaos_letter.proofs.letter_lists.LetterLists.put.Goals as goal

pub returns : goal.returns
returns c =
    let view = λ (v : Vec Letter _). v.items in
    ap (map view) c.put.ensures ∙ map-set view c.self.inside.lists c.args.at c.into_vec.result
    ∙ ap (λ (l : List Letter). slice_set (map view c.self.inside.lists) c.args.at l) c.into_vec.ensures
    ∙ ap (λ (l : List (List Letter)). slice_set l c.args.at c.args.list) c.self.view_is
