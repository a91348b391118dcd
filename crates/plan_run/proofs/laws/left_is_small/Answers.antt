use Rattle.plan_run.proofs.laws.left_is_small.Goals as goal
use Rattle.plan_run.specs.LeftLaws.{left_is_small as law}

pub returns : goal.returns
returns c = law
