use Rattle.plan_walk.specs.StepEnds.{steps_are_known, stages_are_known}
use Rattle.plan_walk.proofs.laws.steps_are_known.Goals as goal

pub returns-clause-steps : goal.returns-clause-steps
returns-clause-steps c = steps_are_known

pub returns-clause-stages : goal.returns-clause-stages
returns-clause-stages c = stages_are_known
