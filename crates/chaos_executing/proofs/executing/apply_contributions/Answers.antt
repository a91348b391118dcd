use Rattle.chaos_executing.proofs.Phases.{scatter_ends}
use Rattle.chaos_executing.proofs.executing.apply_contributions.Goals as goal

pub returns-clause-ok : goal.returns-clause-ok
returns-clause-ok c = λ s past site turn p tables h parts owed.
    scatter_ends s past site turn p tables c.args.prepared.now c.args.executing.now h c.args.taken.now c.args.pieces.now
    c.change_pieces.new.pieces c.in_ok-change_pieces.ensures.ok parts owed
