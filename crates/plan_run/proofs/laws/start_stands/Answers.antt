use Rattle.plan_run.proofs.laws.start_stands.Goals as goal
use Rattle.plan_run.specs.StepLaws.{start_stands as law}

pub returns : goal.returns
returns c = law
