use Rattle.plan_walk.proofs.laws.run_starts.Goals as goal
use Rattle.plan_walk.specs.StepEnds.{run_starts as law}

pub returns : goal.returns
returns c = law
