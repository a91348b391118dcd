use Rattle.chaos_bins.proofs.laws.rows_are_moving.Goals as goal
use Rattle.chaos_bins.specs.Moving.{rows_are_moving as law}

pub returns : goal.returns
returns c = law
