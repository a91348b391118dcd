use Rattle.std.proofs.Common.{◌∙◌, ap, sym}
use Rattle.std.proofs.lemmas.Result.{IfOk-weaker}
use Rattle.std.specs.Option.{option_copied}
use Rattle.chaos_entering.proofs.StepEntered.{execute_is_right, nothing_kept}
use Rattle.chaos_entering.proofs.entering.execute_kept.Goals as goal

pub returns-in-Some-clause-right : goal.returns-in-Some-clause-right
returns-in-Some-clause-right c =
    let a = c.args.ahead.now in
    IfOk-weaker c.enter_gather.result _ _
    (λ e h plan past rest step st known same number named here pages next begun.
    execute_is_right a.session.now a.between.now a.number a.site c.in-Some.prepared.now a.left e
    (sym c.kept_of.ensures ∙ ap option_copied c.in-Some.is) h plan past rest step st known same number named here next begun)
    c.enter_gather.ensures.right

pub returns-in-None-clause-right : goal.returns-in-None-clause-right
returns-in-None-clause-right c = λ plan past rest step st known same number named here pages next begun.
    let a = c.args.ahead.now in
    nothing_kept a.session.now a.between.now a.number a.site a.left c.enter_end.result (sym c.kept_of.ensures
    ∙ ap option_copied c.in-None.is) plan past rest step st known same number named here next begun
