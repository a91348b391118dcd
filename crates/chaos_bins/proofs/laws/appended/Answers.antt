use Rattle.chaos_bins.proofs.laws.appended.Goals as goal
use Rattle.chaos_bins.specs.Appended.{plan_is_appended as law}

pub returns : goal.returns
returns c = law
