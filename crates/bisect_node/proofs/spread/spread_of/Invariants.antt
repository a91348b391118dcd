use Rattle.std.proofs.Common.{◌≡◌, take}
use Rattle.bisect_node.specs.Steps.{told_of_pieces}
use Rattle.bisect_node.proofs.spread.spread_of.Given as goal

abbrev pub invariant-loop-piece : goal.invariant-loop-piece
invariant-loop-piece l = l.told ≡ told_of_pieces (take l.piece-index l.pieces)
