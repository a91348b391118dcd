use Rattle.std.proofs.Common.{◌≡◌, ◌-◌, drop}
use Rattle.chaos_conflict.specs.Clashes.{lesser, side_by_side}
use Rattle.chaos_conflict.proofs.least.least_beside.Given as goal

-- the rows from the one before on decide with the least so far
abbrev pub invariant-loop-at : goal.invariant-loop-at
invariant-loop-at l = lesser l.least (side_by_side (drop (l.at - 1) l.rows)) ≡ side_by_side l.rows
