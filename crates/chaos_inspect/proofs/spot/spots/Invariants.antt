use Rattle.std.proofs.Common.{◌≡◌, ◌++◌, drop}
use Rattle.chaos_inspect.specs.Walking.{known_through, spots_told}
use Rattle.chaos_inspect.proofs.spot.spots.Given as goal

abbrev pub invariant-loop-i : goal.invariant-loop-i
invariant-loop-i l =
    l.spots ++ spots_told l.facts l.asking l.places (known_through l.facts (drop l.i-index l.iterations) l.rest)
    ≡ spots_told l.facts l.asking l.told (known_through l.facts l.iterations l.firsts)
