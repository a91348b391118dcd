use Rattle.std.proofs.Common.{◌≡◌, map, pos}
use Rattle.chaos_dist.specs.Counting.{below}
use Rattle.chaos_dist.specs.Layout.{element_of}
use Rattle.chaos_dist.specs.declared.shape.Shape.TheVariants.{Block}
use Rattle.chaos_holdings.proofs.first.elements_of_block.Given as goal

abbrev pub invariant-loop-local : goal.invariant-loop-local
invariant-loop-local l = l.elements ≡ map (λ k. pos (element_of Block l.extent l.nodes l.node k)) (below l.local)
