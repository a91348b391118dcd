use Rattle.std.proofs.Common.{◌≡◌, drop}
use Rattle.fd_loops.specs.Drafts.{stamp_in}
use Rattle.fd_loops.proofs.draft.stamp_among.Given as goal

abbrev pub invariant-loop-stamped : goal.invariant-loop-stamped
invariant-loop-stamped l =
    stamp_in (drop l.stamped-index l.stamps) l.decomposition l.offset l.marks ≡ stamp_in l.stamps l.decomposition l.offset l.marks
