use Rattle.plan_run.specs.InspectionLaws.{inspection_begins, inspection_ends}
use Rattle.plan_run.proofs.laws.inspections_go_on.Goals as goal

pub returns-clause-begins : goal.returns-clause-begins
returns-clause-begins c = inspection_begins

pub returns-clause-ends : goal.returns-clause-ends
returns-clause-ends c = inspection_ends
