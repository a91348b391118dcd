use Rattle.std.proofs.Common.{◌≡◌, ◌∷◌, [], pos}
use Rattle.std.specs.List.{flat_map}
use Rattle.chaos_dist.specs.Counting.{below}
use Rattle.chaos_dist.specs.Layout.{element_of}
use Rattle.chaos_dist.specs.declared.shape.Shape.TheVariants.{Block}
use Rattle.bisect_node.specs.Steps.{number_at}
use Rattle.bisect_node.proofs.printing.rows_of.Given as goal

abbrev pub invariant-loop-k : goal.invariant-loop-k
invariant-loop-k l = l.rows ≡ flat_map (λ k. pos (element_of Block l.layout.extent l.layout.nodes l.me k)
    ∷ number_at l.parts-inside.items.items k ∷ []) (below l.k)
