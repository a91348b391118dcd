use Rattle.std.proofs.Common.{◌≡◌, ◌++◌, drop, None}
use Rattle.fd_program.specs.Uses.{uses_from}
use Rattle.fd_meaning.proofs.uses.uses.Given as goal

abbrev pub invariant-loop-reference : goal.invariant-loop-reference
invariant-loop-reference l = record {
  number : l.number_before ≡ l.reference-index;
  rest : l.list ++ uses_from l.arrays l.turn.adds l.store l.i l.number_before l.before (drop l.reference-index l.references)
      ≡ uses_from l.arrays l.turn.adds l.store l.i 0 None l.references;
}
