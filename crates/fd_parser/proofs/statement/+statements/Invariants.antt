use Rattle.std.proofs.Common.{◌≡◌, ◌≤◌, ◌+◌, length, ◌*◌, List}
use Rattle.fd_syntax.specs.declared.statement.Statement.{Statement}
use Rattle.fd_grammar.specs.declared.opening.Closer.{Closer}
use Rattle.fd_grammar.specs.Machine.{State, Body, run}
use Rattle.fd_parser.proofs.statement.+statements.Given as goal

abbrev pub decreases-body : goal.decreases-body
decreases-body l = 2 * length l.parser.now.rest.now + 1

abbrev pub decreases-repeated : goal.decreases-repeated
decreases-repeated l = 2 * length l.parser.now.rest.now + 2

abbrev pub invariant-body-loop-of-while_some : goal.invariant-body-loop-of-while_some
invariant-body-loop-of-while_some l = record {
  shrinks : length l.parser.rest.now ≤ length l.fn.parser.rest.now;
  reads : (c : Closer) (k : List Statement → State) → run l.fn.parser.rest.now (Body c l.fn.before k) ≡ run l.parser.rest.now
      (Body c l.statements k);
}

abbrev pub decreases-body-loop-of-while_some : goal.decreases-body-loop-of-while_some
decreases-body-loop-of-while_some l = length l.parser.rest.now
