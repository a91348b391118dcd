use Rattle.std.proofs.Common.{◌+◌, ◌*◌, length}
use Rattle.fd_grammar.specs.Machine.{Then, MoreScalarTerms, MoreScalarFactors}
use Rattle.fd_expressions.specs.Reads.{ReadsUntil}
use Rattle.fd_expressions.proofs.parser.Parser.+scalar.Given as goal

abbrev pub decreases-scalar_factor : goal.decreases-scalar_factor
decreases-scalar_factor l = 5 * length l.self.now.rest.now

abbrev pub decreases-more_scalar_factors : goal.decreases-more_scalar_factors
decreases-more_scalar_factors l = 5 * length l.self.now.rest.now + 1

abbrev pub decreases-scalar_term : goal.decreases-scalar_term
decreases-scalar_term l = 5 * length l.self.now.rest.now + 2

abbrev pub decreases-more_scalar_terms : goal.decreases-more_scalar_terms
decreases-more_scalar_terms l = 5 * length l.self.now.rest.now + 3

abbrev pub decreases-scalar : goal.decreases-scalar
decreases-scalar l = 5 * length l.self.now.rest.now + 4

abbrev pub invariant-more_scalar_terms-loop-self : goal.invariant-more_scalar_terms-loop-self
invariant-more_scalar_terms-loop-self l =
    ReadsUntil (λ k. Then (MoreScalarTerms l.fn.first k)) (λ k. Then (MoreScalarTerms l.left k)) l.fn.self.rest.now l.self.rest.now

abbrev pub decreases-more_scalar_terms-loop-self : goal.decreases-more_scalar_terms-loop-self
decreases-more_scalar_terms-loop-self l = length l.self.rest.now

abbrev pub invariant-more_scalar_factors-loop-self : goal.invariant-more_scalar_factors-loop-self
invariant-more_scalar_factors-loop-self l =
    ReadsUntil (λ k. Then (MoreScalarFactors l.fn.first k)) (λ k. Then (MoreScalarFactors l.left k)) l.fn.self.rest.now l.self.rest.now

abbrev pub decreases-more_scalar_factors-loop-self : goal.decreases-more_scalar_factors-loop-self
decreases-more_scalar_factors-loop-self l = length l.self.rest.now
