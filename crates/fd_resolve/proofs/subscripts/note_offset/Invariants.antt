use Rattle.std.proofs.Common.{◌≡◌, ◌++◌, drop}
use Rattle.fd_resolve.specs.Resolve.{offset_unknowns}
use Rattle.fd_resolve.proofs.subscripts.note_offset.Given as goal

abbrev pub invariant-loop-term : goal.invariant-loop-term
invariant-loop-term l =
    l.faults ++ offset_unknowns l.head l.around (drop l.term-index l.add) ≡ l.fn.faults ++ offset_unknowns l.head l.around l.add
