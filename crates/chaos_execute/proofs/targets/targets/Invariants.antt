use Rattle.std.proofs.Common.{◌≡◌, ◌++◌, drop}
use Rattle.chaos_execute.specs.ByArray.{targets_from}
use Rattle.chaos_execute.proofs.targets.targets.Given as goal

abbrev pub invariant-loop-statement : goal.invariant-loop-statement
invariant-loop-statement l = (l.targets.items ++ targets_from l.seats l.array l.column (drop l.statement-index l.body)
    ≡ targets_from l.seats l.array 0 l.body)
    × (l.column ≡ l.statement-index)
