use Rattle.chaos_executing.proofs.Phases.{gather_ends}
use Rattle.chaos_executing.proofs.executing.execute.Goals as goal

pub returns : goal.returns
returns c = λ s past site turn p can facts parts owed.
    gather_ends s past site turn p c.args.tables.now c.args.prepared.now c.args.facts.now c.args.pieces.now c.args.taken.now
    c.in_ok-ghosts.ghosts c.take_ghosts.new.ghosts c.in_ok-pending.pending
    c.in_ok-ghosts.ensures.stamped c.in_ok-ghosts.ensures.ghosts c.take_ghosts.ensures c.in_ok-pending.ensures can facts parts owed
