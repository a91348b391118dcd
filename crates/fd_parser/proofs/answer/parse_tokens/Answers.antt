use Rattle.std.proofs.Common.{sym, subst, Result, Err}
use Rattle.fd_words.specs.declared.source.SourceStop.{SourceStop}
use Rattle.fd_syntax.specs.declared.program.Program.{Program}
use Rattle.fd_parser.specs.Answer.{IsAnswer}
use Rattle.fd_parser.proofs.Answers.{answer_shallow, answer_deep}
use Rattle.fd_parser.proofs.answer.parse_tokens.Goals as goal

pub returns-in-None : goal.returns-in-None
returns-in-None c =
    subst (λ (r : Result Program SourceStop). IsAnswer c.args.tokens.now c.args.end r) (sym c.answer_to.ensures)
    (answer_shallow c.args.tokens.now c.args.end c.parse_any-found.result c.in-None.ensures c.parse_any-found.ensures)

pub returns-in-Some : goal.returns-in-Some
returns-in-Some c =
    subst (λ (e : SourceStop). IsAnswer c.args.tokens.now c.args.end (Err e)) (sym c.deep_stop.ensures)
    (answer_deep c.args.tokens.now c.args.end c.in-Some.deep c.index-tokens-deep.result c.index-tokens-deep.result
    c.parse_any-found-in-Some.result c.in-Some.ensures (sym c.index-tokens-deep.is) c.parse_any-found-in-Some.ensures)
