use Rattle.plan_run.proofs.laws.run_is_whole.Goals as goal
use Rattle.plan_run.specs.EndLaws.{run_is_whole as law}

pub returns : goal.returns
returns c = law
