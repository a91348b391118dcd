use Rattle.std.proofs.Common.{◌≡◌, ◌/◌, map, take}
use Rattle.chaos_entering.proofs.sizes.halved.Given as goal

abbrev pub invariant-loop-size : goal.invariant-loop-size
invariant-loop-size l = l.counts.items ≡ map (λ n. n / 2) (take l.size-index l.sizes)
