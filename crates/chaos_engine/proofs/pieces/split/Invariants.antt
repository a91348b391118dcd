use Rattle.std.proofs.Common.{◌≡◌, map}
use Rattle.chaos_dist.specs.Counting.{below}
use Rattle.fd_program.specs.Places.{parts_of}
use Rattle.chaos_holdings.specs.Starting.{block_owners}
use Rattle.chaos_engine.proofs.pieces.split.Given as goal

abbrev pub invariant-loop-node : goal.invariant-loop-node
invariant-loop-node l = l.pieces ≡ map (parts_of l.session.checked.arrays (block_owners l.session.nodes l.session.checked.layouts)
    l.store) (below l.node)
