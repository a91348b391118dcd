use Rattle.std.proofs.Common.{◌≡◌, take}
use Rattle.bisect_node.specs.Indexed.{filter_from}
use Rattle.bisect_node.specs.Steps.{goes}
use Rattle.bisect_node.proofs.pieces.kept_of.Given as goal

abbrev pub invariant-loop-k : goal.invariant-loop-k
invariant-loop-k l = l.list ≡ filter_from (λ k. goes l.first l.keys l.found k) 0 (take l.k l.numbers)
