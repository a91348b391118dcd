use Rattle.std.proofs.Common.{◌≡◌, ◌++◌, drop}
use Rattle.std.specs.List.{fold}
use Rattle.fd_scope.specs.Faults.{along}
use Rattle.fd_scope.specs.Scope.{after_parameter, parameter_faults}
use Rattle.fd_scope.proofs.declarations.enter_parameters.Given as goal

abbrev pub invariant-loop-item : goal.invariant-loop-item
invariant-loop-item l = record {
  scope : fold after_parameter l.scope (drop l.item-index l.list) ≡ fold after_parameter l.fn.scope l.list;
  noted : l.faults ++ along after_parameter (parameter_faults l.loops) l.scope (drop l.item-index l.list) ≡ l.fn.faults
      ++ along after_parameter (parameter_faults l.loops) l.fn.scope l.list;
}
