use Rattle.std.proofs.Common.{ap, sym, ◌∙◌}
use Rattle.fd_program.specs.declared.loop_facts.Layout.{Layout}
use Rattle.inspect_uses.specs.Reached.{place_by_form}
use Rattle.inspect_uses.proofs.places.place_by_formula.Goals as goal

pub returns-in-Regular : goal.returns-in-Regular
returns-in-Regular c =
    c.place_in.ensures
    ∙ ap (λ form. place_by_form form c.layout_of-layout.result.extent c.args.facts.now.nodes c.stands_at-element.result)
    (sym c.in-Regular.is)
    ∙ ap (λ (l : Layout). place_by_form l.form l.extent c.args.facts.now.nodes c.stands_at-element.result) c.layout_of-layout.ensures
    ∙ ap (place_by_form _ _ c.args.facts.now.nodes) c.stands_at-element.ensures.element
