use Rattle.std.proofs.lemmas.Result.{err_from_is_err_and}
use Rattle.fd_front.proofs.Reading.{by_tokens, by_grammar}
use Rattle.fd_front.proofs.source.parsed.Goals as goal

pub returns-in_err-tokens : goal.returns-in_err-tokens
returns-in_err-tokens c =
    let p = err_from_is_err_and c.from_residual.result c.from_residual.ensures.1 in
    rw (p.1, p.2) (by_tokens c.args.text.now c.in_err-tokens.field-0.0 c.in_err-tokens.ensures)

pub returns-in_err-program : goal.returns-in_err-program
returns-in_err-program c =
    let p = err_from_is_err_and c.from_residual-in_err-program.result c.from_residual-in_err-program.ensures.1 in
    rw (p.1, p.2) (by_grammar c.args.text.now c.in_ok-tokens.tokens c.in_err-program.field-0.0 c.in_ok-tokens.ensures
    c.in_err-program.ensures)
