use Rattle.std.proofs.Common.{◌≡◌, ◌++◌, drop, map}
use Rattle.fd_program.specs.Loops.{write_of}
use Rattle.fd_meaning.specs.Changes.{writes_of_changes}
use Rattle.fd_meaning.proofs.loops.add_changes.Given as goal

abbrev pub invariant-loop-statement : goal.invariant-loop-statement
invariant-loop-statement l =
    writes_of_changes l.changes ++ map (write_of l.terms l.store l.i l.uses) (drop l.statement-index l.body)
    ≡ writes_of_changes l.fn.changes ++ map (write_of l.terms l.store l.i l.uses) l.body
