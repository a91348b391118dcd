use Rattle.std.proofs.Common.{◌≡◌, ◌++◌, drop, map}
use Rattle.fd_program.specs.Scalars.{scalar_value}
use Rattle.fd_trace.proofs.subscripts.terms.Given as goal

abbrev pub invariant-loop-name : goal.invariant-loop-name
invariant-loop-name l = l.numbers ++ map (scalar_value l.variables) (drop l.name-index l.names) ≡ map (scalar_value l.variables) l.names
