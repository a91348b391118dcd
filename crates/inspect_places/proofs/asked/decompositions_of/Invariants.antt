use Rattle.std.proofs.Common.{◌≡◌, map, take}
use Rattle.fd_program.specs.Met.{decomposition_met}
use Rattle.inspect_places.proofs.asked.decompositions_of.Given as goal

abbrev pub invariant-loop-used : goal.invariant-loop-used
invariant-loop-used l = l.numbers ≡ map (decomposition_met l.facts) (take l.used-index l.uses)
