use Rattle.std.proofs.Common.{◌≡◌, ◌++◌, drop}
use Rattle.chaos_print.specs.Printing.{rows_owned}
use Rattle.chaos_print.proofs.rows.rows_on.Given as goal

abbrev pub invariant-loop-k : goal.invariant-loop-k
invariant-loop-k l = l.rows ++ rows_owned l.facts (drop l.k l.elements) (drop l.k l.part) ≡ rows_owned l.facts l.elements l.part
