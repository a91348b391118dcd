use Rattle.std.proofs.Common.{◌≡◌, take}
use Rattle.bisect_node.specs.Printing.{lines_told}
use Rattle.bisect_node.proofs.printing.told_text.Given as goal

abbrev pub invariant-loop-letter : goal.invariant-loop-letter
invariant-loop-letter l = l.text ≡ lines_told (take l.letter-index l.got)
