-- Tokens have one program at most.
use Rattle.std.specs.Prelude.{◌≡◌, List}
use Rattle.fd_lexer.specs.declared.token.Token.{Token}
use Rattle.fd_syntax.specs.declared.program.Program.{Program}
use Rattle.fd_grammar.specs.Grammar.{IsWrittenAs}

abbrev pub EachHasOneProgram : Type 0
EachHasOneProgram = (ts : List Token) (p q : Program) → IsWrittenAs p ts → IsWrittenAs q ts → p ≡ q
