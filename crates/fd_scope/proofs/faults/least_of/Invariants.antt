use Rattle.std.proofs.Common.{◌≡◌, drop, None}
use Rattle.std.specs.List.{fold}
use Rattle.fd_scope.specs.Faults.{lesser}
use Rattle.fd_scope.proofs.faults.least_of.Given as goal

abbrev pub invariant-loop-fault : goal.invariant-loop-fault
invariant-loop-fault l = fold lesser l.least (drop l.fault-index l.faults) ≡ fold lesser None l.faults
