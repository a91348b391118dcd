use Rattle.std.proofs.Common.{◌≡◌, ◌++◌, drop}
use Rattle.fd_checks.specs.Walks.{variables_of}
use Rattle.fd_checks.proofs.statements.names_of.Given as goal

abbrev pub invariant-loop-one : goal.invariant-loop-one
invariant-loop-one l = l.names ++ variables_of (drop l.one-index l.list) ≡ variables_of l.list
