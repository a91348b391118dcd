use Rattle.plan_run.proofs.laws.rows_have_moves.Goals as goal
use Rattle.plan_run.specs.DueLaws.{rows_have_moves as law}

pub returns : goal.returns
returns c = law
