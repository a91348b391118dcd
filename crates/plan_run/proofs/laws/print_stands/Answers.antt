use Rattle.plan_run.proofs.laws.print_stands.Goals as goal
use Rattle.plan_run.specs.StepLaws.{print_stands as law}

pub returns : goal.returns
returns c = law
