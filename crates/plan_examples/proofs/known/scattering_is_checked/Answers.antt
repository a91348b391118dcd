use Rattle.plan_examples.proofs.known.scattering_is_checked.Goals as goal
use Rattle.plan_examples.specs.Witness.{scattering_is_checked as witness}

pub returns : goal.returns
returns c = witness
