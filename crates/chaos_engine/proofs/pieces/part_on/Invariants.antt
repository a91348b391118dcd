use Rattle.std.proofs.Common.{◌≡◌, map}
use Rattle.chaos_dist.specs.Counting.{below}
use Rattle.chaos_dist.specs.Layout.{element_of}
use Rattle.chaos_dist.specs.declared.shape.Shape.TheVariants.{Block}
use Rattle.fd_program.specs.Places.{value_on}
use Rattle.chaos_engine.proofs.pieces.part_on.Given as goal

abbrev pub invariant-loop-local : goal.invariant-loop-local
invariant-loop-local l = l.part ≡ map (λ k. value_on l.checked.arrays l.store l.array (element_of Block l.extent l.nodes l.node k))
    (below l.local)
