use Rattle.chaos_bins.proofs.laws.dealt_is_same.Goals as goal
use Rattle.chaos_bins.specs.Bags.{dealt_is_same as law}

pub returns : goal.returns
returns c = law
