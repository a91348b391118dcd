use Rattle.std.proofs.Common.{◌≡◌, replicate, []}
use Rattle.bsp_core.specs.Lists.{items_of}
use Rattle.bsp_core.proofs.world.no_letters.Given as goal

abbrev pub invariant-loop-pair : goal.invariant-loop-pair
invariant-loop-pair l = items_of l.lists.items ≡ replicate l._pair []
