use Rattle.std.proofs.Common.{◌<◌, ◌≤◌, ◌∙◌, List, ap, get_or, length, subst}
use Rattle.fd_program.specs.declared.trace.Step.{Step}
use Rattle.chaos_entering.proofs.Finding.{search_finds, search_goes_on, search_is_over}
use Rattle.chaos_entering.proofs.found.find.Goals as goal

pub returns-in-Some-clause-found : goal.returns-in-Some-clause-found
returns-in-Some-clause-found c =
    let less : c.loop-number.number < length c.args.trace.now = subst (λ (l : List Step). c.loop-number.number < length l)
    c.as_slice-steps.ensures c.loop-number-test.true in
    search_finds c.args.between.now c.args.trace.now c.args.from c.loop-number.number c.index-steps-number.result c.in_ok-begun.field-0
    c.in-Some.begun c.site_of.result less
    (c.index-steps-number.is ∙ ap (λ (l : List Step). get_or l c.loop-number.number c.index-steps-number.result) c.as_slice-steps.ensures)
    c.in-Some.is c.site_of.ensures c.in_ok-begun.ensures.begun c.loop-number.invariant

pub loop-number-preserved : goal.loop-number-preserved
loop-number-preserved c =
    let less : c.loop-number.number < length c.args.trace.now = subst (λ (l : List Step). c.loop-number.number < length l)
    c.as_slice-steps.ensures c.loop-number-test.true in
    search_goes_on c.args.between.now c.args.trace.now c.args.from c.loop-number.number c.index-steps-number.result c.in_ok-begun.field-0
    less
    (c.index-steps-number.is ∙ ap (λ (l : List Step). get_or l c.loop-number.number c.index-steps-number.result) c.as_slice-steps.ensures)
    c.in-None.is c.in_ok-begun.ensures.begun c.loop-number.invariant

pub returns-clause-found : goal.returns-clause-found
returns-clause-found c =
    let most : length c.args.trace.now ≤ c.loop-number.number = subst (λ (l : List Step). length l ≤ c.loop-number.number)
    c.as_slice-steps.ensures c.loop-number-test.false in
    search_is_over c.args.between.now c.args.trace.now c.args.from c.loop-number.number most c.loop-number.invariant
