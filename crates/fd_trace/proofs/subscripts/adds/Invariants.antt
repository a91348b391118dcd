use Rattle.std.proofs.Common.{◌≡◌, ◌++◌, drop}
use Rattle.fd_trace.specs.Sizes.{adds_faults}
use Rattle.fd_trace.specs.Way.{adds_by}
use Rattle.fd_trace.proofs.subscripts.adds.Given as goal

abbrev pub invariant-loop-reference : goal.invariant-loop-reference
invariant-loop-reference l = record {
  values : l.numbers ++ adds_by l.variables (drop l.reference-index l.references) ≡ adds_by l.variables l.references;
  faults : adds_faults l.variables (drop l.reference-index l.references) ≡ adds_faults l.variables l.references;
}
