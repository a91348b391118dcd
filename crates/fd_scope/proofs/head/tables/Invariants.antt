use Rattle.std.proofs.Common.{◌≡◌, drop}
use Rattle.std.specs.List.{fold}
use Rattle.fd_scope.specs.Heads.{after_entry, tables_of}
use Rattle.fd_scope.proofs.head.tables.Given as goal

abbrev pub invariant-loop-entry : goal.invariant-loop-entry
invariant-loop-entry l = fold after_entry l.tables (drop l.entry-index l.entries) ≡ tables_of l.fn.scope
