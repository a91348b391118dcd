use Rattle.plan_run.proofs.laws.print_leaves_store.Goals as goal
use Rattle.plan_run.specs.StepLaws.{print_leaves_store as law}

pub returns : goal.returns
returns c = law
