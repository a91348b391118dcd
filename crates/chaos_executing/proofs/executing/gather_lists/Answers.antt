use Rattle.chaos_executing.proofs.Phases.{gather_sends}
use Rattle.chaos_executing.proofs.executing.gather_lists.Goals as goal

pub returns : goal.returns
returns c = λ s past site turn p tables can parts.
    gather_sends s past site turn p tables c.args.prepared.now c.args.pieces.now c.in_ok-lists.lists c.in_ok-lists.ensures can parts
