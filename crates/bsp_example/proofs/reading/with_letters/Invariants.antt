use Rattle.std.proofs.Common.{◌≡◌, take}
use Rattle.bsp_example.specs.Rows.{heard}
use Rattle.bsp_example.proofs.reading.with_letters.Given as goal

abbrev pub invariant-letters : goal.invariant-letters
invariant-letters l = l.is ≡ heard l.flag (take l.letter-index l.letters)
