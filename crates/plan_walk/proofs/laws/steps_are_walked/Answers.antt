use Rattle.plan_walk.specs.Walking.{start_is_before_step, quiet_is_passed, step_is_entered, outputs_follow_steps}
use Rattle.plan_walk.proofs.laws.steps_are_walked.Goals as goal

pub returns-clause-start : goal.returns-clause-start
returns-clause-start c = start_is_before_step

pub returns-clause-quiet : goal.returns-clause-quiet
returns-clause-quiet c = quiet_is_passed

pub returns-clause-entered : goal.returns-clause-entered
returns-clause-entered c = step_is_entered

pub returns-clause-over : goal.returns-clause-over
returns-clause-over c = outputs_follow_steps
