use Rattle.std.proofs.Common.{length}
use Rattle.fd_grammar.specs.Machine.{Then, Offset, MoreOffset}
use Rattle.fd_expressions.specs.Reads.{ReadsUntil}
use Rattle.fd_expressions.proofs.parser.Parser.offset.Given as goal

abbrev pub invariant-loop-self : goal.invariant-loop-self
invariant-loop-self l = ReadsUntil (λ k. Then (Offset k)) (λ k. Then (MoreOffset l.terms k)) l.fn.self.rest.now l.self.rest.now

abbrev pub decreases-loop-self : goal.decreases-loop-self
decreases-loop-self l = length l.self.rest.now
