use Rattle.std.proofs.Common.{◌∙◌}
use Rattle.chaos_node.proofs.Started.{count_in}
use Rattle.chaos_node.proofs.starting.phases_left.Goals as goal

pub returns-clause-is : goal.returns-clause-is
returns-clause-is c = λ plan is same.
    let both = count_in c.args.session.now c.in_ok-phases.phases c.in_ok-phases.ensures.count plan is same in
    c.within.ensures.is both.1 ∙ both.0
