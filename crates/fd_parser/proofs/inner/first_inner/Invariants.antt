use Rattle.std.proofs.Common.{length}
use Rattle.fd_grammar.specs.Machine.{FirstInner}
use Rattle.fd_expressions.specs.Reads.{ReadsUntil}
use Rattle.fd_parser.proofs.inner.first_inner.Given as goal

abbrev pub invariant-loop-of-while_some : goal.invariant-loop-of-while_some
invariant-loop-of-while_some l = ReadsUntil (FirstInner l.index) (FirstInner l.index) l.fn.parser.rest.now l.parser.rest.now

abbrev pub decreases-loop-of-while_some : goal.decreases-loop-of-while_some
decreases-loop-of-while_some l = length l.parser.rest.now
