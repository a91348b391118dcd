use Rattle.std.proofs.Common.{◌≡◌, drop}
use Rattle.std.specs.List.{fold}
use Rattle.chaos_execute.specs.ByArray.{target_joined}
use Rattle.chaos_execute.proofs.by_array.join_targets.Given as goal

abbrev pub invariant-loop-target : goal.invariant-loop-target
invariant-loop-target l = fold (target_joined l.array.operator l.array.own l.array.slots l.array.columns.now l.at l.row) (l.here, l.ghosts)
    (drop l.target-index l.targets)
    ≡ fold (target_joined l.array.operator l.array.own l.array.slots l.array.columns.now l.at l.row) (l.fn.here, l.fn.ghosts) l.targets
