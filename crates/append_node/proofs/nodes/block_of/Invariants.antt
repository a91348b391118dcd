use Rattle.std.proofs.Common.{◌≡◌, ◌-◌, map}
use Rattle.chaos_dist.specs.Counting.{below}
use Rattle.chaos_dist.specs.Layout.{element_of}
use Rattle.chaos_dist.specs.declared.shape.Shape.TheVariants.{Block}
use Rattle.chaos_bins.specs.Rows.{number_at}
use Rattle.append_node.proofs.nodes.block_of.Given as goal

abbrev pub invariant-loop-local : goal.invariant-loop-local
invariant-loop-local l =
    l.own ≡ map (λ k. number_at l.numbers (element_of Block l.layout.extent l.layout.nodes l.node k - 1)) (below l.local)
