use Rattle.chaos_bins.proofs.laws.come_is_held.Goals as goal
use Rattle.chaos_bins.specs.Moving.{come_is_held as law}

pub returns : goal.returns
returns c = law
