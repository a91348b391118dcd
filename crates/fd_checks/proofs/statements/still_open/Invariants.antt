use Rattle.std.proofs.Common.{◌≡◌, ◌++◌, drop}
use Rattle.fd_checks.specs.Walks.{passed}
use Rattle.fd_checks.proofs.statements.still_open.Given as goal

abbrev pub invariant-loop-one : goal.invariant-loop-one
invariant-loop-one l = l.inner ++ passed (drop l.one-index l.list) ≡ passed l.list
