use Rattle.std.proofs.Common.{◌≡◌, ◌++◌, drop, map}
use Rattle.fd_scope.specs.Heads.{layout_of}
use Rattle.fd_scope.proofs.head.named_layouts.Given as goal

abbrev pub invariant-loop-entry : goal.invariant-loop-entry
invariant-loop-entry l = l.layouts ++ map layout_of (drop l.entry-index l.entries) ≡ map layout_of l.entries
