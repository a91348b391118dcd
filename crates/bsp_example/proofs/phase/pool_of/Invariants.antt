use Rattle.std.proofs.Common.{◌≡◌, length}
use Rattle.bsp_example.proofs.phase.pool_of.Given as goal

abbrev pub invariant-loop-k : goal.invariant-loop-k
invariant-loop-k l = length l.pool.items ≡ l.k
