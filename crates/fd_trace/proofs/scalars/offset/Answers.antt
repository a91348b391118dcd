use Rattle.std.proofs.Common.{◌∙◌, ap, sym, pos}
use Rattle.std.specs.List.{fold}
use Rattle.std.proofs.lemmas.List.{drop_all}
use Rattle.fd_trace.specs.Outcomes.{term_joined}
use Rattle.fd_trace.proofs.Values.{offset_outcome}
use Rattle.fd_trace.proofs.scalars.offset.Goals as goal

pub returns : goal.returns
returns c =
    ap (fold (term_joined c.args.variables.now) c.loop-term.total)
    (sym (drop_all c.loop-term.term-index c.args.terms.now c.loop-term-test.false))
    ∙ c.loop-term.invariant ∙ offset_outcome c.args.variables.now (pos 0) c.args.terms.now
