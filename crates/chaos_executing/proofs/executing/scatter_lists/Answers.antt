use Rattle.chaos_executing.proofs.Phases.{scatter_sends}
use Rattle.chaos_executing.proofs.executing.scatter_lists.Goals as goal

pub returns : goal.returns
returns c = λ s past site turn p tables h.
    scatter_sends s past site turn p tables c.args.prepared.now c.args.executing.now h c.in_ok-lists.lists c.in_ok-lists.ensures
