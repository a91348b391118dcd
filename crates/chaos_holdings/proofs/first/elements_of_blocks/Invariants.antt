use Rattle.std.proofs.Common.{◌≡◌, take}
use Rattle.chaos_holdings.specs.Starting.{block_elements}
use Rattle.chaos_holdings.proofs.first.elements_of_blocks.Given as goal

abbrev pub invariant-loop-k : goal.invariant-loop-k
invariant-loop-k l = l.lists ≡ block_elements l.nodes (take l.k l.layouts) l.node
