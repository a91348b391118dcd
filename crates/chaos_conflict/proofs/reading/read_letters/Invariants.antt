use Rattle.std.proofs.Common.{◌≡◌, ◌++◌, take}
use Rattle.std.specs.List.{flat_map}
use Rattle.chaos_conflict.specs.Rows.{rows_of}
use Rattle.chaos_conflict.proofs.reading.read_letters.Given as goal

abbrev pub invariant-loop-letter : goal.invariant-loop-letter
invariant-loop-letter l = l.rows.items ≡ l.fn.rows.items ++ flat_map rows_of (take l.letter-index l.letters)
