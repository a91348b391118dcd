use Rattle.std.proofs.Common.{length}
use Rattle.fd_grammar.specs.Machine.{Then, InItems, MoreItems, SizedItem}
use Rattle.fd_expressions.specs.Reads.{ReadsUntil}
use Rattle.fd_parser.proofs.declaration.sized_names.Given as goal

abbrev pub invariant-loop-parser : goal.invariant-loop-parser
invariant-loop-parser l =
    ReadsUntil (InItems SizedItem) (λ k. Then (MoreItems SizedItem l.items k)) l.fn.parser.rest.now l.parser.rest.now

abbrev pub decreases-loop-parser : goal.decreases-loop-parser
decreases-loop-parser l = length l.parser.rest.now
