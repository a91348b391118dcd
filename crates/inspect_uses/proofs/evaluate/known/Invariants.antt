use Rattle.std.proofs.Common.{◌≡◌, ◌≤◌, ◌++◌, drop, None}
use Rattle.fd_program.specs.Uses.{uses_known}
use Rattle.inspect_uses.proofs.evaluate.known.Given as goal

abbrev pub invariant-loop-reference : goal.invariant-loop-reference
invariant-loop-reference l = record {
  place : l.place ≡ l.reference-index;
  few : l.next ≤ l.place;
  rest : l.list ++ uses_known l.arrays l.facts.turn.adds l.i l.place l.before (drop l.reference-index l.references) (drop l.next l.firsts)
      ≡ uses_known l.arrays l.facts.turn.adds l.i 0 None l.references l.firsts;
}
