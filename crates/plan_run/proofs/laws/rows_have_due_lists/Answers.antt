use Rattle.plan_run.proofs.laws.rows_have_due_lists.Goals as goal
use Rattle.plan_run.specs.DueLaws.{rows_have_due_lists as law}

pub returns : goal.returns
returns c = law
