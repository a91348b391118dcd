use Rattle.std.proofs.Common.{◌≡◌, ℤ, List, ap, ◌∙◌, arith}
use Rattle.std.proofs.lemmas.Int.{ints}
use Rattle.chaos_section.specs.Sections.{own_on, stands}
use Rattle.chaos_section.proofs.Shifts.{if_ok, own-is}
use Rattle.chaos_section.proofs.own.own_iterations.Goals as goal

pub returns : goal.returns
returns c =
    let l = c.args.facts.now in
    let r = c.args.reference in
    let y = c.layout-layout.result in
    let order = c.if-facts.false in
    let reaching = c.requires.reference.reaching l.low (omega (arith, ints)) (omega (arith, ints)) in
    if_ok _ (λ (list : List ℤ). list ≡ own_on l c.args.me r) c.shifted_between.result
    (λ list e. e ∙ own-is l c.args.me r y.shape y.extent y.nodes c.stands-first.result c.stands-last.result _ c.layout-layout.ensures.shape
    c.layout-layout.ensures.extent c.layout-layout.ensures.nodes (c.stands-first.ensures.stands ∙ ap (stands r) (omega (arith, ints)))
    (c.stands-last.ensures.stands ∙ ap (stands r) (omega (arith, ints))) (omega (arith, ints, c.shift.ensures.shift)) (omega (arith, ints))
    reaching.first) c.shifted_between.ensures
