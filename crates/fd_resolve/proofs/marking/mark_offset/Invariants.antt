use Rattle.std.proofs.Common.{◌≡◌, ◌++◌, drop}
use Rattle.fd_resolve.specs.Resolve.{offset_marks}
use Rattle.fd_resolve.proofs.marking.mark_offset.Given as goal

abbrev pub invariant-loop-term : goal.invariant-loop-term
invariant-loop-term l =
    l.marks ++ offset_marks l.head l.around (drop l.term-index l.add) ≡ l.fn.marks ++ offset_marks l.head l.around l.add
