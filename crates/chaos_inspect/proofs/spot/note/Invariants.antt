use Rattle.std.proofs.Common.{◌≡◌, ◌++◌, drop}
use Rattle.chaos_inspect.specs.Walking.{spots_told}
use Rattle.chaos_inspect.proofs.spot.note.Given as goal

abbrev pub invariant-loop-used : goal.invariant-loop-used
invariant-loop-used l =
    l.spots ++ spots_told l.facts l.asking l.rest (drop l.used-index l.uses) ≡ l.initial.spots ++ spots_told l.facts l.asking l.told l.uses
