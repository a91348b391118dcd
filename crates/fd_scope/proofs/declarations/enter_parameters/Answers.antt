use Rattle.fd_scope.proofs.Walking.{fold_step, along_step}
use Rattle.fd_scope.specs.Scope.{after_parameter, parameter_faults}
use Rattle.fd_scope.proofs.declarations.enter_parameters.Goals as goal

pub loop-item-preserved : goal.loop-item-preserved
loop-item-preserved c = record {
  scope = fold_step after_parameter c.loop-item.scope c.enter_parameter.new.scope _ c.args.list.now c.loop-item.item-index
      c.item-item.result
      c.loop-item-test.true c.item-item.is c.in_ok-enter_parameter.ensures.scope c.loop-item.invariant.scope;
  noted = along_step after_parameter (parameter_faults c.args.loops.now) c.loop-item.scope c.enter_parameter.new.scope c.loop-item.faults
      c.enter_parameter.new.faults _ c.args.list.now c.loop-item.item-index c.item-item.result
      c.loop-item-test.true c.item-item.is c.in_ok-enter_parameter.ensures.scope c.in_ok-enter_parameter.ensures.noted
      c.loop-item.invariant.noted;
}
