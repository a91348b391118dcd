use Rattle.std.proofs.Common.{◌≡◌, ◌++◌, drop}
use Rattle.std.specs.List.{fold}
use Rattle.fd_scope.specs.Faults.{along}
use Rattle.fd_scope.specs.Scope.{after_declaration, declaration_faults, nothing}
use Rattle.fd_scope.proofs.declarations.enter_all.Given as goal

abbrev pub invariant-loop-item : goal.invariant-loop-item
invariant-loop-item l = record {
  scope : fold after_declaration l.scope (drop l.item-index l.declarations) ≡ fold after_declaration nothing l.declarations;
  noted : l.faults ++ along after_declaration (declaration_faults l.loops) l.scope (drop l.item-index l.declarations) ≡ l.fn.faults
      ++ along after_declaration (declaration_faults l.loops) nothing l.declarations;
}
