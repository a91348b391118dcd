use Rattle.std.proofs.Common.{◌≡◌, take, map}
use Rattle.std.specs.Char.{to_ascii_uppercase}
use Rattle.fd_lexer.proofs.piece.upper_case.Given as goal

abbrev pub invariant-loop-byte : goal.invariant-loop-byte
invariant-loop-byte l = l.name ≡ map to_ascii_uppercase (take l.byte-index l.word)
