-- What a text is to the front end.
use Rattle.std.specs.Prelude.{ℕ, List, Result, Ok, Err}
use Rattle.fd_words.specs.declared.source.SourceFault.{SourceFault}
use Rattle.fd_words.specs.declared.source.SourceStop.{SourceStop}
use Rattle.fd_words.specs.declared.source.SourceStop.TheVariants as stop
use Rattle.fd_lexer.specs.Tokens.{HasFault}
use Rattle.fd_lexer.specs.Tokens.{HasTokens as Spells}
use Rattle.fd_lexer.specs.declared.token.TokenList.{TokenList}
use Rattle.fd_syntax.specs.declared.program.Program.{Program}
use Rattle.fd_parser.specs.Answer.{IsTheProgram, IsFault}
use Rattle.fd_parser.specs.Depth.{Shallow, no_depth}
use Rattle.fd_program.specs.declared.checked.Checked.{Checked}
use Rattle.fd_program.specs.declared.trace.Step.{Step}
use Rattle.fd_checks.specs.Walks.{IsAnswer}
use Rattle.fd_checks.specs.Shapes.{AreShaped}
use Rattle.fd_checks.specs.Filled.{AreFilled}
use Rattle.fd_program.specs.Checks.{IsChecked}
use Rattle.fd_trace.specs.Way.{IsUnrolled}
use Rattle.fd_front.specs.declared.source.Source.{Source}

-- the text has these tokens, and they are the tokens of this program alone
pub record IsSpelled (text : List ℕ) (list : TokenList) (program : Program) : Type 0 where
  pub tokens : Spells text list
  pub only : IsTheProgram list.tokens program
  pub shallow : Shallow no_depth list.tokens

-- the text is this source: its program has no fault and is checked, and its steps pass no limit
pub record IsSource (text : List ℕ) (s : Source) : Type 0 where
  pub spelled : IsSpelled text s.tokens s.program
  pub checked : IsAnswer s.program (Ok s.checked)
  pub shaped : AreShaped s.checked.sites
  pub sound : IsChecked s.checked
  pub trace : IsUnrolled s.checked (Ok s.trace)

-- the first fault of a text: of its tokens, or else of their grammar, or else of the program, or else on the way through its steps
pub data IsSourceFault (text : List ℕ) : SourceFault → Type 0 where
  in_tokens : (fault : SourceFault) → HasFault text fault → IsSourceFault text fault
  in_grammar : (fault : SourceFault) (list : TokenList) → Spells text list → IsFault list.tokens list.end fault.at fault.cause
      → IsSourceFault text fault
  in_program : (fault : SourceFault) (list : TokenList) (program : Program) → IsSpelled text list program
      → IsAnswer program (Err (stop.Fault fault)) → IsSourceFault text fault
  in_steps : (fault : SourceFault) (list : TokenList) (program : Program) (checked : Checked) → IsSpelled text list program
      → IsAnswer program (Ok checked)
      → IsUnrolled checked (Err (stop.Fault fault)) → IsSourceFault text fault

-- the source that the text is, or its first fault; want of memory alone is free
abbrev pub IsReadAs : List ℕ → Result Source SourceStop → Type 0
IsReadAs text (Ok s) = IsSource text s
IsReadAs text (Err (stop.Fault fault)) = IsSourceFault text fault
IsReadAs text (Err stop.Memory) = Unit {0}

-- ---- its two halves

abbrev pub IsParsed : List ℕ → Result (TokenList × Program) SourceStop → Type 0
IsParsed text (Ok found) = IsSpelled text found.0 found.1
IsParsed text (Err (stop.Fault fault)) = IsSourceFault text fault
IsParsed text (Err stop.Memory) = Unit {0}

pub record AreResolved (program : Program) (c : Checked) (steps : List Step) : Type 0 where
  pub checked : IsAnswer program (Ok c)
  pub shaped : AreShaped c.sites
  pub sound : AreFilled program → IsChecked c
  pub trace : IsUnrolled c (Ok steps)

-- the fault of a program, or on the way through its steps
pub data IsProgramFault (program : Program) : SourceFault → Type 0 where
  in_names : (fault : SourceFault) → IsAnswer program (Err (stop.Fault fault)) → IsProgramFault program fault
  on_the_way : (fault : SourceFault) (checked : Checked) → IsAnswer program (Ok checked) → IsUnrolled checked (Err (stop.Fault fault))
      → IsProgramFault program fault

abbrev pub IsResolved : Program → Result (Checked × List Step) SourceStop → Type 0
IsResolved program (Ok found) = AreResolved program found.0 found.1
IsResolved program (Err (stop.Fault fault)) = IsProgramFault program fault
IsResolved program (Err stop.Memory) = Unit {0}
