use Rattle.plan_walk.proofs.laws.steps_end.Goals as goal
use Rattle.plan_walk.specs.StepEnds.{steps_end as law}

pub returns : goal.returns
returns c = law
