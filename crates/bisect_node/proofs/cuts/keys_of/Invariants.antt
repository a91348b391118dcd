use Rattle.std.proofs.Common.{◌≡◌, take}
use Rattle.bisect_node.specs.Indexed.{map_from}
use Rattle.bisect_node.specs.Steps.{key_at, number_at}
use Rattle.bisect_node.proofs.cuts.keys_of.Given as goal

abbrev pub invariant-loop-k : goal.invariant-loop-k
invariant-loop-k l = l.keys ≡ map_from (λ k element. key_at (number_at l.axis k) element) 0 (take l.k l.all)
