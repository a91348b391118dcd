use Rattle.plan_run.proofs.laws.print_keeps_loops.Goals as goal
use Rattle.plan_run.specs.StepLaws.{print_keeps_loops as law}

pub returns : goal.returns
returns c = law
