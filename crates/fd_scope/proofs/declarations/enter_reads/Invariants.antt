use Rattle.std.proofs.Common.{◌≡◌, ◌++◌, drop}
use Rattle.std.specs.List.{fold}
use Rattle.fd_scope.specs.Faults.{along}
use Rattle.fd_scope.specs.Scope.{after_read, read_faults}
use Rattle.fd_scope.proofs.declarations.enter_reads.Given as goal

abbrev pub invariant-loop-item : goal.invariant-loop-item
invariant-loop-item l = record {
  scope : fold after_read l.scope (drop l.item-index l.list) ≡ fold after_read l.fn.scope l.list;
  noted : l.faults ++ along after_read read_faults l.scope (drop l.item-index l.list) ≡ l.fn.faults ++ along after_read read_faults
      l.fn.scope l.list;
}
