use Rattle.std.proofs.Common.{◌≡◌, map, pos}
use Rattle.chaos_dist.specs.Counting.{below}
use Rattle.chaos_dist.specs.Layout.{element_of}
use Rattle.chaos_dist.specs.declared.shape.Shape.TheVariants.{Block}
use Rattle.bisect_node.proofs.printing.elements_of.Given as goal

abbrev pub invariant-loop-k : goal.invariant-loop-k
invariant-loop-k l = l.elements ≡ map (λ k. pos (element_of Block l.layout.extent l.layout.nodes l.me k)) (below l.k)
