use Rattle.fd_scope.proofs.Walking.{fold_step, along_step}
use Rattle.fd_scope.specs.Scope.{after_layout, layout_faults}
use Rattle.fd_scope.proofs.declarations.enter_layouts.Goals as goal

pub loop-item-preserved : goal.loop-item-preserved
loop-item-preserved c = record {
  scope = fold_step after_layout c.loop-item.scope c.enter_layout.new.scope _ c.args.list.now c.loop-item.item-index c.item-item.result
      c.loop-item-test.true c.item-item.is c.in_ok-enter_layout.ensures.scope c.loop-item.invariant.scope;
  noted = along_step after_layout (layout_faults c.args.loops.now) c.loop-item.scope c.enter_layout.new.scope c.loop-item.faults
      c.enter_layout.new.faults _ c.args.list.now c.loop-item.item-index c.item-item.result
      c.loop-item-test.true c.item-item.is c.in_ok-enter_layout.ensures.scope c.in_ok-enter_layout.ensures.noted
      c.loop-item.invariant.noted;
}
