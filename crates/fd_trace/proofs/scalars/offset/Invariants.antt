use Rattle.std.proofs.Common.{◌≡◌, drop, pos, Ok}
use Rattle.std.specs.List.{fold}
use Rattle.fd_trace.specs.Outcomes.{term_joined}
use Rattle.fd_trace.proofs.scalars.offset.Given as goal

abbrev pub invariant-loop-term : goal.invariant-loop-term
invariant-loop-term l = fold (term_joined l.variables) l.total (drop l.term-index l.terms) ≡ fold (term_joined l.variables)
    (Ok (pos 0)) l.terms
