use Rattle.std.proofs.Common.{◌≡◌, take, map}
use Rattle.chaos_moving.specs.Stages.{regular_place}
use Rattle.chaos_moving.proofs.regular.places_by.Given as goal

abbrev pub invariant-loop-at : goal.invariant-loop-at
invariant-loop-at l = l.places ≡ map (regular_place l.layout.shape l.layout.extent l.layout.nodes) (take l.at l.elements)
