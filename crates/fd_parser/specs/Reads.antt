-- What a function of the parser has read, where it isn't all of one phrase.
use Rattle.std.specs.Prelude.{◌≡◌, ℕ, List, Result, Ok, Err}
use Rattle.fd_expressions.specs.declared.stop.Stop.{Stop}
use Rattle.fd_expressions.specs.declared.stop.Stop.TheVariants.{Wrong, Memory}
use Rattle.fd_lexer.specs.declared.token.Token.{Token}
use Rattle.fd_syntax.specs.declared.program.Program.{Program}
use Rattle.fd_syntax.specs.declared.statement.Statement.{Statement}
use Rattle.fd_syntax.specs.declared.statement.BodyStatement.{BodyStatement}
use Rattle.fd_grammar.specs.declared.opening.Closer.{Closer}
use Rattle.fd_grammar.specs.declared.opening.Closer.TheVariants.{EndOfForall}
use Rattle.fd_grammar.specs.Machine.{State, Body, Close, FirstInner, Ended, run, start}

-- The old rest has the statements before the end of a program or a DO, behind earlier ones, and then the new rest, or the new
-- rest begins with the fault.
abbrev pub ReadsBody : List Statement → List Token → List Token → Result (List Statement) Stop → Type 0
ReadsBody before old new (Ok ss) = (c : Closer) (k : List Statement → State) → run old (Body c before k) ≡ run new (Close c (k ss))
ReadsBody before old new (Err Wrong) = (c : Closer) (k : List Statement → State) → run old (Body c before k) ≡ Err new
ReadsBody before old new (Err Memory) = Unit {0}

-- The same for the lines of a FORALL's body.
abbrev pub ReadsInner : (index : List ℕ) → List Token → List Token → Result (List BodyStatement) Stop → Type 0
ReadsInner index old new (Ok ss) = (k : List BodyStatement → State) → run old (FirstInner index k) ≡ run new (Close EndOfForall (k ss))
ReadsInner index old new (Err Wrong) = (k : List BodyStatement → State) → run old (FirstInner index k) ≡ Err new
ReadsInner index old new (Err Memory) = Unit {0}

-- The same for what ends the text.
abbrev pub ReadsEnd : List Token → List Token → Result (Unit {0}) Stop → Type 0
ReadsEnd old new (Ok x) = (p : Program) → run old (Ended p) ≡ Ok p
ReadsEnd old new (Err Wrong) = (p : Program) → run old (Ended p) ≡ Err new
ReadsEnd old new (Err Memory) = Unit {0}

-- The same for all of it.
abbrev pub ReadsAll : List Token → List Token → Result Program Stop → Type 0
ReadsAll old new (Ok p) = run old start ≡ Ok p
ReadsAll old new (Err Wrong) = run old start ≡ Err new
ReadsAll old new (Err Memory) = Unit {0}
