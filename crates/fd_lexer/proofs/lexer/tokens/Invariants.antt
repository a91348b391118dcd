use Rattle.std.proofs.Common.{◌-◌, length}
use Rattle.fd_lexer.proofs.Steps.{Reads}
use Rattle.fd_lexer.proofs.lexer.tokens.Given as goal

abbrev pub invariant-loop-found : goal.invariant-loop-found
invariant-loop-found l = Reads l.text l.cursor.at l.cursor.place l.cursor.begun l.found

abbrev pub decreases-loop-found : goal.decreases-loop-found
decreases-loop-found l = length l.text - l.cursor.at
