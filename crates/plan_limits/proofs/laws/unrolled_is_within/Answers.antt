use Rattle.plan_limits.proofs.laws.unrolled_is_within.Goals as goal
use Rattle.plan_limits.specs.Unrolled.{unrolled_is_within as law}

pub returns : goal.returns
returns c = law
