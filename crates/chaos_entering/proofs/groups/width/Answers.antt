use Rattle.std.proofs.Common.{List, sym, ap, ◌∙◌, ◌+◌}
use Rattle.std.specs.Prelude.{count_by}
use Rattle.std.specs.Option.{option_copied}
use Rattle.fd_words.specs.Roles.{is_index}
use Rattle.fd_program.specs.declared.reference.Reference.{Reference}
use Rattle.chaos_entering.proofs.GroupLaws.{indexes_none, indexes_there}
use Rattle.chaos_entering.proofs.groups.width.Goals as goal

pub returns-in-Some : goal.returns-in-Some
returns-in-Some c =
    c.width_of.ensures ∙ ap (λ (l : List Reference). 1 + count_by (λ (r : Reference). is_index r.role) l) c.as_slice.ensures
    ∙ ap (λ n. 1 + n) (sym (indexes_there c.args.checked.now c.args.site c.in-Some.site.now (sym c.get.ensures.value
    ∙ ap option_copied c.in-Some.is)))

pub returns-in-None : goal.returns-in-None
returns-in-None c = ap (λ n. 1 + n)
    (sym (indexes_none c.args.checked.now c.args.site (sym c.get.ensures.value ∙ ap option_copied c.in-None.is)))
