use Rattle.std.proofs.Common.{◌≡◌, length}
use Rattle.fd_syntax.specs.declared.program.Program.{Program}
use Rattle.fd_grammar.specs.Machine.{Ended, run}
use Rattle.fd_parser.proofs.program.end_of_text.Given as goal

abbrev pub invariant-loop-parser : goal.invariant-loop-parser
invariant-loop-parser l = (p : Program) → run l.fn.parser.rest.now (Ended p) ≡ run l.parser.rest.now (Ended p)

abbrev pub decreases-loop-parser : goal.decreases-loop-parser
decreases-loop-parser l = length l.parser.rest.now
