use Rattle.std.proofs.Common.{◌≡◌, map, take}
use Rattle.chaos_bins.specs.Plan.{flat}
use Rattle.append_node.specs.Keys.{pair_of}
use Rattle.append_node.proofs.pairs.numbers_of.Given as goal

abbrev pub invariant-loop-key : goal.invariant-loop-key
invariant-loop-key l = l.numbers ≡ flat (map pair_of (take l.key-index l.keys))
