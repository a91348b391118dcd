use Rattle.std.proofs.Common.{◌≡◌, map}
use Rattle.chaos_dist.specs.Counting.{below}
use Rattle.chaos_dist.specs.Layout.{element_of}
use Rattle.chaos_dist.specs.declared.shape.Shape.TheVariants.{Block}
use Rattle.chaos_cut.specs.Bisection.{coordinate}
use Rattle.bisect_node.proofs.nodes.block_of.Given as goal

abbrev pub invariant-loop-k : goal.invariant-loop-k
invariant-loop-k l = l.own ≡ map (λ k. coordinate l.axis (element_of Block l.layout.extent l.layout.nodes l.node k)) (below l.k)
