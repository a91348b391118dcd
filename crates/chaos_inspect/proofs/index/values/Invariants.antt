use Rattle.std.proofs.Common.{◌≡◌, ◌++◌, drop, map, replicate}
use Rattle.chaos_inspect.specs.Dealing.{numbers_drawn}
use Rattle.chaos_inspect.specs.declared.spot.Spot.{Spot}
use Rattle.chaos_inspect.proofs.index.values.Given as goal

abbrev pub invariant-loop-spot : goal.invariant-loop-spot
invariant-loop-spot l =
    l.values ++ numbers_drawn l.answers l.drawn (map (λ (s : Spot). s.owner) (drop l.spot-index l.spots))
    ≡ numbers_drawn l.answers (replicate 16 0)
    (map (λ (s : Spot). s.owner) l.spots)
