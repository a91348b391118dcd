use Rattle.std.proofs.Common.{◌≡◌, map, take}
use Rattle.bisect_node.proofs.founds.zeros_of.Given as goal

abbrev pub invariant-loop-cut : goal.invariant-loop-cut
invariant-loop-cut l = l.found ≡ map (λ _. 0) (take l._cut-index l.cuts)
