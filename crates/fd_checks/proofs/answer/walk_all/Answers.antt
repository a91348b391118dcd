use Rattle.fd_scope.proofs.Walking.{fold_step, along_step}
use Rattle.fd_checks.specs.Walks.{step, step_faults}
use Rattle.fd_checks.proofs.answer.walk_all.Goals as goal

pub loop-statement-preserved : goal.loop-statement-preserved
loop-statement-preserved c = record {
  walk = fold_step (step c.args.head.now) c.loop-statement.walk c.step_over.new.walk _ c.args.statements.now
      c.loop-statement.statement-index c.statement-item.result
      c.loop-statement-test.true c.statement-item.is c.in_ok-step_over.ensures.walk c.loop-statement.invariant.walk;
  noted = along_step (step c.args.head.now) (step_faults c.args.head.now) c.loop-statement.walk c.step_over.new.walk
      c.loop-statement.faults c.step_over.new.faults _
      c.args.statements.now c.loop-statement.statement-index c.statement-item.result
      c.loop-statement-test.true c.statement-item.is c.in_ok-step_over.ensures.walk c.in_ok-step_over.ensures.noted
      c.loop-statement.invariant.noted;
}
