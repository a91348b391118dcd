-- What an answer to tokens says.
use Rattle.std.specs.Prelude.{◌≡◌, List, [], ◌∷◌, ◌++◌, Result, Ok, Err}
use Rattle.fd_words.specs.declared.source.SourcePlace.{SourcePlace}
use Rattle.fd_words.specs.declared.source.SourceCause.{SourceCause}
use Rattle.fd_words.specs.declared.source.SourceCause.TheVariants as cause
use Rattle.fd_words.specs.declared.source.SourceStop.{SourceStop}
use Rattle.fd_words.specs.declared.source.SourceStop.TheVariants as stop
use Rattle.fd_lexer.specs.declared.token.Token.{Token}
use Rattle.fd_syntax.specs.declared.program.Program.{Program}
use Rattle.fd_grammar.specs.Grammar.{IsWrittenAs, CanBegin}
use Rattle.fd_parser.specs.Depth.{Shallow, IsDeep, no_depth}
use Rattle.fd_parser.specs.declared.answer.Trouble.{Trouble}
use Rattle.fd_parser.specs.declared.answer.Trouble.TheVariants as trouble

-- the one program that has these tokens
pub record IsTheProgram (ts : List Token) (p : Program) : Type 0 where
  pub has : IsWrittenAs p ts
  pub only : (q : Program) → IsWrittenAs q ts → q ≡ p

-- the tokens can begin a program and are none
pub record EndsEarly (ts : List Token) : Type 0 where
  pub begins : CanBegin ts
  pub no_program : (p : Program) → IsWrittenAs p ts → ⊥

-- the tokens before this one can begin a program, and with it they cannot
pub record IsUnexpected (ts : List Token) (t : Token) : Type 0 where
  pub before : List Token
  pub after : List Token
  pub split : ts ≡ before ++ t ∷ after
  pub begins : CanBegin before
  pub stops : CanBegin (before ++ t ∷ []) → ⊥

-- and none before it is too deep
pub record IsFirstUnexpected (ts : List Token) (t : Token) : Type 0 where
  pub is : IsUnexpected ts t
  pub shallow : Shallow no_depth is.before

-- this is the first token that is too deep, and the tokens up to it can begin a program
pub record IsFirstTooDeep (ts : List Token) (t : Token) : Type 0 where
  pub before : List Token
  pub after : List Token
  pub split : ts ≡ before ++ t ∷ after
  pub begins : CanBegin (before ++ t ∷ [])
  pub is : IsDeep before t

-- the first fault of tokens that end at this place
abbrev pub IsFault : List Token → (end at : SourcePlace) → SourceCause → Type 0
IsFault ts end at cause.NoEnd = EndsEarly ts × Shallow no_depth ts × (at ≡ end)
IsFault ts end at cause.Unexpected = (t : Token) × IsFirstUnexpected ts t × (at ≡ t.at)
IsFault ts end at cause.TooDeep = (t : Token) × IsFirstTooDeep ts t × (at ≡ t.at)
IsFault ts end at _ = ⊥

-- the program, or the first fault
abbrev pub IsAnswer : List Token → (end : SourcePlace) → Result Program SourceStop → Type 0
IsAnswer ts end (Ok p) = IsTheProgram ts p × Shallow no_depth ts
IsAnswer ts end (Err (stop.Fault fault)) = IsFault ts end fault.at fault.cause
IsAnswer ts end (Err stop.Memory) = Unit {0}

-- the same, however deep the tokens are
abbrev pub IsAnyAnswer : List Token → Result Program Trouble → Type 0
IsAnyAnswer ts (Ok p) = IsTheProgram ts p
IsAnyAnswer ts (Err trouble.Memory) = Unit {0}
IsAnyAnswer ts (Err trouble.NoEnd) = EndsEarly ts
IsAnyAnswer ts (Err (trouble.Unexpected t)) = IsUnexpected ts t

abbrev pub fault_at : SourcePlace → SourceCause → SourceStop
fault_at at cause = stop.Fault (record { at = at; cause = cause })

-- the answer to tokens none of which is too deep
abbrev pub answer_to : Result Program Trouble → (end : SourcePlace) → Result Program SourceStop
answer_to (Ok p) end = Ok p
answer_to (Err trouble.Memory) end = Err stop.Memory
answer_to (Err trouble.NoEnd) end = Err (fault_at end cause.NoEnd)
answer_to (Err (trouble.Unexpected t)) end = Err (fault_at t.at cause.Unexpected)

-- the stop of tokens whose last is the first that is too deep
abbrev pub deep_stop : Result Program Trouble → Token → SourceStop
deep_stop (Err trouble.Memory) last = stop.Memory
deep_stop (Err (trouble.Unexpected t)) last = fault_at t.at cause.Unexpected
deep_stop (Err trouble.NoEnd) last = fault_at last.at cause.TooDeep
deep_stop (Ok p) last = fault_at last.at cause.TooDeep
