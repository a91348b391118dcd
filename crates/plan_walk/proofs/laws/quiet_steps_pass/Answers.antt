use Rattle.plan_walk.proofs.laws.quiet_steps_pass.Goals as goal
use Rattle.plan_walk.specs.StepEnds.{quiet_steps_pass as law}

pub returns : goal.returns
returns c = law
