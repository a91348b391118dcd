use Rattle.std.proofs.Common.{[], ◌∷◌, length}
use Rattle.fd_grammar.specs.Machine.{Then, MoreItems, AlignedItem}
use Rattle.fd_expressions.specs.Reads.{ReadsUntil}
use Rattle.fd_parser.proofs.declaration.more_aligned.Given as goal

abbrev pub invariant-loop-dummy : goal.invariant-loop-dummy
invariant-loop-dummy l = ReadsUntil (λ k. Then (MoreItems (AlignedItem l.dummy) (l.fn.first ∷ []) k))
    (λ k. Then (MoreItems (AlignedItem l.dummy) l.items k)) l.fn.parser.rest.now l.parser.rest.now

abbrev pub decreases-loop-dummy : goal.decreases-loop-dummy
decreases-loop-dummy l = length l.parser.rest.now
