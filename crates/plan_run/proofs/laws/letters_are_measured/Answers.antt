use Rattle.plan_run.proofs.laws.letters_are_measured.Goals as goal
use Rattle.plan_run.specs.MeasureLaws.{letters_are_measured as law}

pub returns : goal.returns
returns c = law
