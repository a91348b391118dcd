use Rattle.std.proofs.Common.{◌≡◌, drop}
use Rattle.std.specs.List.{fold}
use Rattle.fd_program.specs.Loops.{written}
use Rattle.fd_meaning.specs.Changes.{writes_of_changes}
use Rattle.fd_meaning.proofs.loops.make_all.Given as goal

abbrev pub invariant-loop-change : goal.invariant-loop-change
invariant-loop-change l =
    fold written l.store (writes_of_changes (drop l.change-index l.changes)) ≡ fold written l.fn.store (writes_of_changes l.changes)
