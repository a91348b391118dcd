use Rattle.std.proofs.Common.{◌≡◌}
use Rattle.chaos_bins.specs.Lines.{lines_from, through}
use Rattle.append_node.proofs.lines.lines.Given as goal

abbrev pub invariant-loop-bin : goal.invariant-loop-bin
invariant-loop-bin l = (l.text ≡ lines_from l.bin l.pairs) × (l.from ≡ through l.bin l.pairs)
