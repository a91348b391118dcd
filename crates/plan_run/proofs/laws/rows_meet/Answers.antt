use Rattle.plan_run.proofs.laws.rows_meet.Goals as goal
use Rattle.plan_run.specs.RowLaws.{rows_meet as law}

pub returns : goal.returns
returns c = law
