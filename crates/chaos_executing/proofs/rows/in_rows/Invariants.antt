use Rattle.std.proofs.Common.{◌≡◌, drop}
use Rattle.chaos_executing.specs.Rows.{have_rows}
use Rattle.chaos_executing.proofs.rows.in_rows.Given as goal

abbrev pub invariant-loop-node : goal.invariant-loop-node
invariant-loop-node l = have_rows (drop l.node l.letters) (drop l.node l.all) ≡ have_rows l.letters l.all
