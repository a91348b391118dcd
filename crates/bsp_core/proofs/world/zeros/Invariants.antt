use Rattle.std.proofs.Common.{◌≡◌, replicate}
use Rattle.bsp_core.proofs.world.zeros.Given as goal

abbrev pub invariant-loop-pair : goal.invariant-loop-pair
invariant-loop-pair l = l.numbers.items ≡ replicate l._pair 0
