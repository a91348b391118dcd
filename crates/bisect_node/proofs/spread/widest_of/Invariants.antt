use Rattle.std.proofs.Common.{◌≡◌, ◌-◌, map}
use Rattle.std.specs.List.{range_with_len}
use Rattle.chaos_cut.specs.Bisection.{first_greatest_from}
use Rattle.bisect_node.specs.Steps.{spread_told, widest}
use Rattle.bisect_node.proofs.spread.widest_of.Given as goal

abbrev pub invariant-loop-axis : goal.invariant-loop-axis
invariant-loop-axis l =
    first_greatest_from l.best.axis l.best.width l.axis
    (map (λ a. spread_told l.told l.got l.base a) (range_with_len l.axis (l.axes - l.axis)))
    ≡ widest l.axes l.told l.got l.base
