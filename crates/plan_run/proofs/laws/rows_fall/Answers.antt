use Rattle.plan_run.proofs.laws.rows_fall.Goals as goal
use Rattle.plan_run.specs.RowLaws.{rows_fall as law}

pub returns : goal.returns
returns c = law
