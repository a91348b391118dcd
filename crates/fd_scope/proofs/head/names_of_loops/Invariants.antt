use Rattle.std.proofs.Common.{◌≡◌, drop}
use Rattle.std.specs.List.{fold}
use Rattle.fd_scope.specs.Heads.{with_loop_of, loop_names}
use Rattle.fd_scope.proofs.head.names_of_loops.Given as goal

abbrev pub invariant-loop-statement : goal.invariant-loop-statement
invariant-loop-statement l = fold with_loop_of l.names (drop l.statement-index l.statements) ≡ loop_names l.statements
