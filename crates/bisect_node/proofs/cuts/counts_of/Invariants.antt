use Rattle.std.proofs.Common.{◌≡◌, take}
use Rattle.bisect_node.specs.Indexed.{map_from}
use Rattle.chaos_cut.specs.Choices.{tried}
use Rattle.bisect_node.specs.Steps.{count_under, found_or_none}
use Rattle.bisect_node.proofs.cuts.counts_of.Given as goal

abbrev pub invariant-loop-at : goal.invariant-loop-at
invariant-loop-at l = l.told ≡ map_from (λ at cut. count_under cut.keys (tried l.power (found_or_none l.found at))) 0 (take l.at l.cuts)
