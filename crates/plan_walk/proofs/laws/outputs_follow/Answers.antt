use Rattle.plan_walk.specs.PhaseBegins.{steps_are_over, outputs_follow, outputs_are_counted}
use Rattle.plan_walk.proofs.laws.outputs_follow.Goals as goal

pub returns-clause-steps : goal.returns-clause-steps
returns-clause-steps c = steps_are_over

pub returns-clause-phases : goal.returns-clause-phases
returns-clause-phases c = outputs_follow

pub returns-clause-count : goal.returns-clause-count
returns-clause-count c = outputs_are_counted
