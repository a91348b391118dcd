use Rattle.std.proofs.Common.{◌≡◌, pos, replicate, take}
use Rattle.chaos_dist.specs.Layout.{length_of}
use Rattle.chaos_dist.specs.declared.shape.Shape.TheVariants.{Block}
use Rattle.bisect_node.specs.Printing.{marked_pieces}
use Rattle.bisect_node.proofs.printing.parts_of.Given as goal

abbrev pub invariant-loop-piece : goal.invariant-loop-piece
invariant-loop-piece l = l.parts ≡ marked_pieces l.layout.extent l.layout.nodes
    (replicate (length_of Block l.layout.extent l.layout.nodes l.me) (pos 0)) (take l.piece-index l.pieces)
