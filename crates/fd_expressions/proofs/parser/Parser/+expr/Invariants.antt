use Rattle.std.proofs.Common.{◌+◌, ◌*◌, length}
use Rattle.fd_grammar.specs.Machine.{Then, ExprTerm, WholeExpr, MoreExprTerms, MoreExprFactors}
use Rattle.fd_expressions.specs.Reads.{ReadsUntil}
use Rattle.fd_expressions.proofs.parser.Parser.+expr.Given as goal

abbrev pub decreases-expr : goal.decreases-expr
decreases-expr l = 3 * length l.self.now.rest.now + 2

abbrev pub decreases-expr_term : goal.decreases-expr_term
decreases-expr_term l = 3 * length l.self.now.rest.now + 1

abbrev pub decreases-expr_factor : goal.decreases-expr_factor
decreases-expr_factor l = 3 * length l.self.now.rest.now

abbrev pub invariant-expr-loop-self : goal.invariant-expr-loop-self
invariant-expr-loop-self l =
    ReadsUntil (WholeExpr l.index) (λ k. Then (MoreExprTerms l.index l.left k)) l.fn.self.rest.now l.self.rest.now

abbrev pub decreases-expr-loop-self : goal.decreases-expr-loop-self
decreases-expr-loop-self l = length l.self.rest.now

abbrev pub invariant-expr_term-loop-self : goal.invariant-expr_term-loop-self
invariant-expr_term-loop-self l =
    ReadsUntil (ExprTerm l.index) (λ k. Then (MoreExprFactors l.index l.left k)) l.fn.self.rest.now l.self.rest.now

abbrev pub decreases-expr_term-loop-self : goal.decreases-expr_term-loop-self
decreases-expr_term-loop-self l = length l.self.rest.now
