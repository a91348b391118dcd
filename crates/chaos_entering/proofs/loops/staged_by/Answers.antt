use Rattle.std.proofs.Common.{subst, sym}
use Rattle.std.proofs.lemmas.Result.{IfOk-weaker}
use Rattle.chaos_entering.specs.Sending.{IsSomeOk, IsStagedBy}
use Rattle.chaos_entering.proofs.loops.staged_by.Goals as goal

pub returns-in-Ok : goal.returns-in-Ok
returns-in-Ok c =
    subst (λ r. IsSomeOk r (λ x. IsStagedBy c.args.naming c.args.activity c.args.left x c.stage_with.result)) (sym c.in-Ok.is)
    c.stage_with.ensures

pub returns-in-Err : goal.returns-in-Err
returns-in-Err c = IfOk-weaker c.without.result _ _ (λ e h. absurd h) c.without.ensures
