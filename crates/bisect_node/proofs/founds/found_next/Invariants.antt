use Rattle.std.proofs.Common.{◌≡◌, take}
use Rattle.bisect_node.specs.Indexed.{map_from}
use Rattle.chaos_cut.specs.Choices.{next_by}
use Rattle.bisect_node.specs.Steps.{found_or_none, summed}
use Rattle.bisect_node.proofs.founds.found_next.Given as goal

abbrev pub invariant-loop-at : goal.invariant-loop-at
invariant-loop-at l = l.next ≡ map_from (λ at cut. next_by (found_or_none l.found at) l.power (summed l.told l.got at) cut.goal) 0
    (take l.at l.cuts)
