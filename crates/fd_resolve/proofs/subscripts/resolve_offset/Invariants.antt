use Rattle.std.proofs.Common.{◌≡◌, ◌++◌, drop}
use Rattle.fd_resolve.specs.Resolve.{offset_resolved}
use Rattle.fd_resolve.proofs.subscripts.resolve_offset.Given as goal

abbrev pub invariant-loop-term : goal.invariant-loop-term
invariant-loop-term l = l.terms ++ offset_resolved l.head l.around (drop l.term-index l.add) ≡ offset_resolved l.head l.around l.add
