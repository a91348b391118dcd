use Rattle.plan_run.proofs.laws.last_is_reached.Goals as goal
use Rattle.plan_run.specs.EndLaws.{last_is_reached as law}

pub returns : goal.returns
returns c = law
