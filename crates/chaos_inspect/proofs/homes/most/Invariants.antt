use Rattle.std.proofs.Common.{◌≡◌, take, map}
use Rattle.chaos_inspect.specs.declared.spot.Spot.{Spot}
use Rattle.chaos_inspect.proofs.homes.most.Given as goal

abbrev pub invariant-loop-spot : goal.invariant-loop-spot
invariant-loop-spot l = l.owners.items ≡ map (λ (s : Spot). s.owner) (take l.spot-index l.spots)
