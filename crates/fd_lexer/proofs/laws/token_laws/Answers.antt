use Rattle.fd_lexer.proofs.Determined.{spans_are_in_order, tokens_determined, fault_determined, has_either, has_not_both}
use Rattle.fd_lexer.proofs.laws.token_laws.Goals as goal

pub returns-clause-tokens_determined : goal.returns-clause-tokens_determined
returns-clause-tokens_determined c = tokens_determined

pub returns-clause-fault_determined : goal.returns-clause-fault_determined
returns-clause-fault_determined c = fault_determined

pub returns-clause-either : goal.returns-clause-either
returns-clause-either c = has_either

pub returns-clause-not_both : goal.returns-clause-not_both
returns-clause-not_both c = has_not_both

pub returns-clause-order : goal.returns-clause-order
returns-clause-order c = spans_are_in_order
