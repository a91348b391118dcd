use Rattle.std.proofs.Common.{refl, sym}
use Rattle.chaos_entering.proofs.EnterPrints.{no_more, print_enters, rows_stand}
use Rattle.chaos_entering.proofs.StepEntered.{print_begins}
use Rattle.chaos_entering.specs.declared.activity.Activity.TheVariants.{Printing}
use Rattle.chaos_entering.proofs.enter_prints.enter_print.Goals as goal

pub returns-clause-made : goal.returns-clause-made
returns-clause-made c =
    let a = c.args.ahead.now in
    rows_stand _ a.between.now.me a.session.now.nodes Printing c.in_ok-rows.rows.own a.left c.printed.result
    (c.printed.ensures a.between.now.me a.session.now.nodes c.in_ok-rows.rows.own refl c.in_ok-rows.ensures.posted) a.few_left refl tt

pub returns-clause-falls : goal.returns-clause-falls
returns-clause-falls c =
    let a = c.args.ahead.now in
    no_more c.printed.result.left a.left (c.printed.ensures a.between.now.me a.session.now.nodes c.in_ok-rows.rows.own refl
    c.in_ok-rows.ensures.posted).left_is

pub returns-clause-right : goal.returns-clause-right
returns-clause-right c = λ plan past rest step st known same number named here pages next begun.
    let a = c.args.ahead.now in
    print_begins plan past rest step c.args.array a.between.now.me a.left c.printed.result st begun next
    (λ come. print_enters a.session.now plan past rest a.number c.args.array a.between.now.me a.left st a.between.now.elements.now
    a.between.now.parts.now c.printed.result
    (c.printed.ensures a.between.now.me a.session.now.nodes _ c.in_ok-rows.ensures.own c.in_ok-rows.ensures.posted) known same number come
    (sym here.elements) (sym here.parts))
