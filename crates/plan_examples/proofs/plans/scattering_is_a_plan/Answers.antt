use Rattle.plan_examples.proofs.plans.scattering_is_a_plan.Goals as goal
use Rattle.plan_examples.specs.Plans.{scattering_is_a_plan as witness}

pub returns : goal.returns
returns c = witness
