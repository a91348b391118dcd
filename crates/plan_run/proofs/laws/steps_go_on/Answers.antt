use Rattle.plan_run.specs.WithinLaws.{step_goes_on, loop_ends, step_begins, refusal_stops}
use Rattle.plan_run.proofs.laws.steps_go_on.Goals as goal

pub returns-clause-within : goal.returns-clause-within
returns-clause-within c = step_goes_on

pub returns-clause-ends : goal.returns-clause-ends
returns-clause-ends c = loop_ends

pub returns-clause-begins : goal.returns-clause-begins
returns-clause-begins c = step_begins

pub returns-clause-refusals : goal.returns-clause-refusals
returns-clause-refusals c = refusal_stops
