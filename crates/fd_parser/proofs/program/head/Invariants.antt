use Rattle.std.proofs.Common.{◌≡◌, List, [], length}
use Rattle.fd_syntax.specs.declared.declaration.Declaration.{Declaration}
use Rattle.fd_syntax.specs.declared.statement.Statement.{Statement}
use Rattle.fd_grammar.specs.Machine.{State, Head, run}
use Rattle.fd_parser.proofs.program.head.Given as goal

abbrev pub invariant-loop-of-while_some : goal.invariant-loop-of-while_some
invariant-loop-of-while_some l = (k : List Declaration → List Statement → State) → run l.fn.parser.rest.now (Head [] [] k)
    ≡ run l.parser.rest.now (Head l.declarations l.statements k)

abbrev pub decreases-loop-of-while_some : goal.decreases-loop-of-while_some
decreases-loop-of-while_some l = length l.parser.rest.now
