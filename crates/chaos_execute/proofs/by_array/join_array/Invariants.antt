use Rattle.std.proofs.Common.{◌≡◌, drop}
use Rattle.chaos_execute.specs.ByArray.{array_block}
use Rattle.chaos_execute.proofs.by_array.join_array.Given as goal

abbrev pub invariant-loop-at : goal.invariant-loop-at
invariant-loop-at l = array_block l.array.operator l.array.own l.array.slots l.array.columns.now l.block.width l.targets l.at
    (drop l.at l.block.iterations.now)
    l.left (l.here, l.ghosts)
    ≡ array_block l.array.operator l.array.own l.array.slots l.array.columns.now l.block.width l.targets 0 l.block.iterations.now
    l.block.row.now (l.fn.here, l.fn.ghosts)
