use Rattle.fd_scope.proofs.Walking.{fold_step, along_step}
use Rattle.fd_loops.specs.Bodies.{after_body, body_faults}
use Rattle.fd_loops.proofs.body.loop_body.Goals as goal

pub loop-statement-preserved : goal.loop-statement-preserved
loop-statement-preserved c =
    let after = after_body c.args.head.now c.args.around.now c.args.index in
    record {
      draft = fold_step after c.loop-statement.draft c.add_statement.new.draft _ c.args.statements.now c.loop-statement.statement-index
          c.statement-item.result
          c.loop-statement-test.true c.statement-item.is c.in_ok-add_statement.ensures.draft c.loop-statement.invariant.draft;
      noted = along_step after (body_faults c.args.head.now c.args.around.now c.args.index) c.loop-statement.draft
          c.add_statement.new.draft c.loop-statement.faults c.add_statement.new.faults _
          c.args.statements.now c.loop-statement.statement-index c.statement-item.result
          c.loop-statement-test.true c.statement-item.is c.in_ok-add_statement.ensures.draft c.in_ok-add_statement.ensures.noted
          c.loop-statement.invariant.noted;
    }
