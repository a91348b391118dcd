use Rattle.plan_walk.specs.Walking.{output_is_phase, output_follows, run_is_over}
use Rattle.plan_walk.proofs.laws.outputs_are_walked.Goals as goal

pub returns-clause-present : goal.returns-clause-present
returns-clause-present c = output_is_phase

pub returns-clause-next : goal.returns-clause-next
returns-clause-next c = output_follows

pub returns-clause-last : goal.returns-clause-last
returns-clause-last c = run_is_over
