use Rattle.std.proofs.Common.{◌≡◌, ◌≤◌, ◌++◌, drop, None}
use Rattle.fd_program.specs.Uses.{uses_told}
use Rattle.inspect_uses.proofs.evaluate.uses.Given as goal

abbrev pub invariant-loop-reference : goal.invariant-loop-reference
invariant-loop-reference l = record {
  place : l.place ≡ l.reference-index;
  few : l.next ≤ l.place;
  rest : l.list ++ uses_told l.arrays l.facts.turn.adds l.i l.place l.before (drop l.reference-index l.references) (drop l.next l.values)
      ≡ uses_told l.arrays l.facts.turn.adds l.i 0 None l.references l.values;
}
