-- The first fault of a pass is that of the text, where the passes before have none.
use Rattle.std.proofs.Common.{List, Ok, Err}
use Rattle.std.specs.Prelude.{ℕ}
use Rattle.fd_words.specs.declared.source.SourceStop.{SourceStop}
use Rattle.fd_words.specs.declared.source.SourceStop.TheVariants as stop
use Rattle.fd_lexer.specs.Tokens.{IsLexed}
use Rattle.fd_lexer.specs.Tokens.{HasTokens as Spells}
use Rattle.fd_lexer.specs.declared.token.TokenList.{TokenList}
use Rattle.fd_syntax.specs.declared.program.Program.{Program}
use Rattle.fd_parser.specs.Answer as parsed
use Rattle.fd_program.specs.declared.checked.Checked.{Checked}
use Rattle.fd_checks.specs.Walks.{IsAnswer}
use Rattle.fd_trace.specs.Way.{IsUnrolled}
use Rattle.fd_front.specs.Sources.{IsSpelled, IsParsed, IsResolved, IsReadAs, in_tokens, in_grammar, in_program, in_steps, in_names}
use Rattle.fd_front.specs.Sources.{on_the_way}

pub by_tokens : (text : List ℕ) (s : SourceStop) → IsLexed text (Err s) → IsParsed text (Err s)
by_tokens text (stop.Fault fault) is = in_tokens fault is
by_tokens text stop.Memory is = tt

pub by_grammar : (text : List ℕ) (list : TokenList) (s : SourceStop) → Spells text list → parsed.IsAnswer list.tokens list.end (Err s)
    → IsParsed text (Err s)
by_grammar text list (stop.Fault fault) spells is = in_grammar fault list spells is
by_grammar text list stop.Memory spells is = tt

pub by_names : (program : Program) (s : SourceStop) → IsAnswer program (Err s) → IsResolved program (Err s)
by_names program (stop.Fault fault) is = in_names fault is
by_names program stop.Memory is = tt

pub by_steps : (program : Program) (checked : Checked) (s : SourceStop) → IsAnswer program (Ok checked) → IsUnrolled checked (Err s)
    → IsResolved program (Err s)
by_steps program checked (stop.Fault fault) is steps = on_the_way fault checked is steps
by_steps program checked stop.Memory is steps = tt

pub by_parse : (text : List ℕ) (s : SourceStop) → IsParsed text (Err s) → IsReadAs text (Err s)
by_parse text (stop.Fault fault) is = is
by_parse text stop.Memory is = tt

pub by_program : (text : List ℕ) (list : TokenList) (program : Program) (s : SourceStop) → IsSpelled text list program
    → IsResolved program (Err s) → IsReadAs text (Err s)
by_program text list program (stop.Fault fault) spelled (in_names fault-1 is) = in_program fault list program spelled is
by_program text list program (stop.Fault fault) spelled (on_the_way fault-1 checked is steps) =
    in_steps fault list program checked spelled is steps
by_program text list program stop.Memory spelled is = tt
