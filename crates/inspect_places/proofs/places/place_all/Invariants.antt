use Rattle.std.proofs.Common.{◌≡◌, ◌++◌, drop, map, replicate}
use Rattle.inspect_places.specs.Dealing.{draws}
use Rattle.inspect_places.specs.Telling.{place_told}
use Rattle.inspect_places.proofs.places.place_all.Given as goal

abbrev pub invariant-loop-decomposition : goal.invariant-loop-decomposition
invariant-loop-decomposition l =
    l.places ++ map place_told (draws l.told l.drawn (drop l.decomposition-index l.decompositions)) ≡ map place_told
    (draws l.told (replicate 128 0) l.decompositions)
