use Rattle.std.proofs.Common.{◌≡◌, ◌∙◌, ◌++◌, ◌∷◌, [], ap, None}
use Rattle.indexmap.proofs.CallerLemmas.{insert_entry-new}
use Rattle.fd_scope.specs.Names.{found, name_eq}
use Rattle.fd_scope.proofs.names.Names.add.Goals as goal

pub returns : goal.returns
returns c =
    let none : found c.self.inside.map.entries c.args.name ≡ None = ap (λ es. found es c.args.name) c.self.view_is ∙ c.requires.new in
    record {
      added = c.in-Ok.ensures.entries ∙ insert_entry-new name_eq c.self.inside.map c.args.name c.args.known none
          ∙ ap (λ es. es ++ (c.args.name, c.args.known) ∷ []) c.self.view_is;
    }
