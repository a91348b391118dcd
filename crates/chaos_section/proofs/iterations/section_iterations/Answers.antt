use Rattle.std.proofs.Common.{◌≡◌, ◌==◌, ℤ, ◌≤ℤ◌, List, All, filter, ap, sym, ◌∙◌, subst}
use Rattle.chaos_section.specs.Sections.{home_on, iterations_on}
use Rattle.chaos_section.proofs.Members.{kept-from, kept-to}
use Rattle.chaos_section.proofs.Shifts.{if_ok}
use Rattle.chaos_section.proofs.Owned.{owned_by_most}
use Rattle.chaos_section.proofs.iterations.section_iterations.Goals as goal

pub kept-requires-clause-from : goal.kept-requires-clause-from
kept-requires-clause-from c =
    let l = c.args.facts.now in
    subst (All (λ i. l.low ≤ℤ i)) (sym (c.as_slice.ensures ∙ c.in_ok-list-in-Most.ensures)) (kept-from _ l.low l.high)

pub kept-requires-clause-to : goal.kept-requires-clause-to
kept-requires-clause-to c =
    let l = c.args.facts.now in
    subst (All (λ i. i ≤ℤ l.high)) (sym (c.as_slice.ensures ∙ c.in_ok-list-in-Most.ensures)) (kept-to _ l.low l.high)

pub returns-in_ok-list-in-Most : goal.returns-in_ok-list-in-Most
returns-in_ok-list-in-Most c =
    let l = c.args.facts.now in
    if_ok _ (λ (list : List ℤ). list ≡ iterations_on l c.args.me) c.kept.result
    (λ list e. e ∙ ap (filter (λ i. home_on l i == c.args.me)) (c.as_slice.ensures ∙ c.in_ok-list-in-Most.ensures)
    ∙ owned_by_most l c.args.me c.requires.section c.in-Most.is) c.kept.ensures
