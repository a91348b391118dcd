use Rattle.std.proofs.Common.{◌≡◌, ◌≤◌, ◌++◌, drop}
use Rattle.bisect_node.specs.Steps.{cut_pieces}
use Rattle.bisect_node.proofs.pieces.cut_all.Given as goal

abbrev pub invariant-loop-piece : goal.invariant-loop-piece
invariant-loop-piece l =
    (l.at ≤ l.piece-index)
    × (l.halves ++ cut_pieces l.cuts l.found l.at (drop l.piece-index l.pieces) ≡ cut_pieces l.cuts l.found 0 l.pieces)
