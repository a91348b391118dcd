use Rattle.std.proofs.Common.{◌≡◌, ◌++◌, drop}
use Rattle.chaos_execute.specs.Columns.{seated_column}
use Rattle.chaos_execute.proofs.columns.read_seated.Given as goal

abbrev pub invariant-loop-i : goal.invariant-loop-i
invariant-loop-i l = l.column.items ++ seated_column l.part l.ghosts l.at l.block.width (drop l._i-index l.block.iterations.now) l.left
    ≡ seated_column l.part l.ghosts l.at l.block.width l.block.iterations.now l.block.row.now
