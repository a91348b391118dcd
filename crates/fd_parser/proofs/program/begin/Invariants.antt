use Rattle.std.proofs.Common.{◌≡◌, length}
use Rattle.fd_grammar.specs.Machine.{State, Begin, run}
use Rattle.fd_parser.proofs.program.begin.Given as goal

abbrev pub invariant-loop-parser : goal.invariant-loop-parser
invariant-loop-parser l = (s : State) → run l.fn.parser.rest.now (Begin s) ≡ run l.parser.rest.now (Begin s)

abbrev pub decreases-loop-parser : goal.decreases-loop-parser
decreases-loop-parser l = length l.parser.rest.now
