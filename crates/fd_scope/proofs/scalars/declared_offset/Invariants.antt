use Rattle.std.proofs.Common.{◌≡◌, ◌++◌, drop, pos, Some}
use Rattle.fd_scope.specs.Scalars.{offset_within, offset_faults}
use Rattle.fd_scope.proofs.scalars.declared_offset.Given as goal

abbrev pub invariant-loop-term : goal.invariant-loop-term
invariant-loop-term l = record {
  value : offset_within l.names l.here l.total (drop l.term-index l.terms) ≡ offset_within l.names l.here (Some (pos 0)) l.terms;
  noted : l.faults ++ offset_faults l.names l.here l.loops l.total (drop l.term-index l.terms) ≡ l.fn.faults
      ++ offset_faults l.names l.here l.loops (Some (pos 0)) l.terms;
}
