use Rattle.std.proofs.Common.{◌≡◌, ◌++◌, drop}
use Rattle.bisect_node.specs.Steps.{cuts_from}
use Rattle.bisect_node.proofs.cuts.cuts_of.Given as goal

abbrev pub invariant-loop-piece : goal.invariant-loop-piece
invariant-loop-piece l = l.cuts ++ cuts_from l.axes l.told l.got l.base (drop l.piece-index l.pieces) ≡ cuts_from l.axes l.told l.got 0
    l.pieces
