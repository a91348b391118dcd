use Rattle.std.proofs.lemmas.Result.{IfOk-weaker}
use Rattle.chaos_entering.proofs.StepEntered.{move_begins}
use Rattle.chaos_entering.proofs.entering.begin_move.Goals as goal

pub returns-clause-right : goal.returns-clause-right
returns-clause-right c =
    let a = c.args.ahead.now in
    IfOk-weaker c.enter_move.result _ _
    (λ e h plan past rest step st known same number named here pages next begun.
    move_begins a.session.now a.between.now.me a.number c.args.moving a.left e h plan past rest step st known same number next begun)
    c.enter_move.ensures.right
