use Rattle.std.proofs.Common.{◌≡◌, ◌++◌, drop}
use Rattle.std.specs.List.{fold}
use Rattle.fd_scope.specs.Faults.{along}
use Rattle.fd_checks.specs.Walks.{start, step, step_faults}
use Rattle.fd_checks.proofs.answer.walk_all.Given as goal

abbrev pub invariant-loop-statement : goal.invariant-loop-statement
invariant-loop-statement l = record {
  walk : fold (step l.head) l.walk (drop l.statement-index l.statements) ≡ fold (step l.head) (start l.head) l.statements;
  noted : l.faults ++ along (step l.head) (step_faults l.head) l.walk (drop l.statement-index l.statements)
      ≡ l.fn.faults ++ along (step l.head) (step_faults l.head) (start l.head) l.statements;
}
