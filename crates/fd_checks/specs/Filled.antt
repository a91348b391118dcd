-- The premise of a checked program: no FORALL is empty, as the grammar has it.
use Rattle.std.specs.Prelude.{◌≤◌, length, All}
use Rattle.fd_syntax.specs.declared.program.Program.{Program}
use Rattle.fd_syntax.specs.declared.statement.Statement.{Statement}
use Rattle.fd_syntax.specs.declared.statement.Statement.TheVariants.{Distribute, Print, Do, Forall}

-- a FORALL has a statement
abbrev pub IsFilled : Statement → Type 0
IsFilled (Distribute at name name_at form) = Unit {0}
IsFilled (Print at name name_at) = Unit {0}
IsFilled (Do at variable variable_at low high inside) = Unit {0}
IsFilled (Forall loop) = 1 ≤ length loop.body

abbrev pub AreFilled : Program → Type 0
AreFilled p = All IsFilled p.statements
