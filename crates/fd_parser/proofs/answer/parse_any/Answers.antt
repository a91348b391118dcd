use Rattle.std.proofs.Common.{sym, subst}
use Rattle.fd_lexer.specs.declared.token.Token.{Token}
use Rattle.fd_parser.specs.Answer.{IsUnexpected}
use Rattle.fd_parser.proofs.Answers.{the_program, ends_here, stops_here}
use Rattle.fd_parser.proofs.answer.parse_any.Goals as goal

pub returns-in-Ok : goal.returns-in-Ok
returns-in-Ok c = the_program _ _ c.in-Ok.ensures

pub returns-in-empty : goal.returns-in-empty
returns-in-empty c = ends_here _ _ (rw c.in-Err-Wrong.field-0-is at c.in-Err-Wrong.ensures) c.in-empty.len_below

pub returns-in-len1-up : goal.returns-in-len1-up
returns-in-len1-up c =
    subst (λ (t : Token). IsUnexpected c.args.tokens.now t) (sym c.token-item.is)
    (stops_here _ _ c.token-item.result (rw c.in-Err-Wrong.field-0-is at c.in-Err-Wrong.ensures) c.in-len1-up.len_at_least)
