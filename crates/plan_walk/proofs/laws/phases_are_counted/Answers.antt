use Rattle.plan_walk.proofs.laws.phases_are_counted.Goals as goal
use Rattle.plan_walk.specs.PhaseBegins.{phases_are_counted as law}

pub returns : goal.returns
returns c = law
