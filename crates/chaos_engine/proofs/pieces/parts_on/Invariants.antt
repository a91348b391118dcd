use Rattle.std.proofs.Common.{◌≡◌, map}
use Rattle.chaos_dist.specs.Counting.{below}
use Rattle.fd_program.specs.Places.{part_of}
use Rattle.chaos_holdings.specs.Starting.{block_owners}
use Rattle.chaos_engine.proofs.pieces.parts_on.Given as goal

abbrev pub invariant-loop-array : goal.invariant-loop-array
invariant-loop-array l = l.parts ≡ map (part_of l.checked.arrays (block_owners l.nodes l.checked.layouts) l.store l.node) (below l.array)
