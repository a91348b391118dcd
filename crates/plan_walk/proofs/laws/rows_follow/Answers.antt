use Rattle.plan_walk.proofs.laws.rows_follow.Goals as goal
use Rattle.plan_walk.specs.PhaseBegins.{rows_follow as law}

pub returns : goal.returns
returns c = law
