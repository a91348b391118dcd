use Rattle.std.proofs.Common.{◌≡◌, ◌++◌, drop}
use Rattle.std.specs.List.{fold}
use Rattle.fd_scope.specs.Faults.{along}
use Rattle.fd_scope.specs.Scope.{after_aligned, listed_faults}
use Rattle.fd_scope.proofs.declarations.align_arrays.Given as goal

abbrev pub invariant-loop-item : goal.invariant-loop-item
invariant-loop-item l = record {
  scope : fold (after_aligned l.to) l.scope (drop l.item-index l.list) ≡ fold (after_aligned l.to) l.fn.scope l.list;
  noted : l.faults ++ along (after_aligned l.to) (listed_faults l.to) l.scope (drop l.item-index l.list) ≡ l.fn.faults
      ++ along (after_aligned l.to) (listed_faults l.to) l.fn.scope l.list;
}
