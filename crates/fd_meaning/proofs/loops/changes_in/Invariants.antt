use Rattle.std.proofs.Common.{◌≡◌, ◌++◌, drop}
use Rattle.fd_program.specs.Loops.{writes_in}
use Rattle.fd_meaning.specs.Changes.{writes_of_changes}
use Rattle.fd_meaning.proofs.loops.changes_in.Given as goal

abbrev pub invariant-loop-i : goal.invariant-loop-i
invariant-loop-i l =
    writes_of_changes l.list ++ writes_in l.arrays l.site l.turn l.store (drop l.i-index l.iterations)
    ≡ writes_in l.arrays l.site l.turn l.store l.iterations
