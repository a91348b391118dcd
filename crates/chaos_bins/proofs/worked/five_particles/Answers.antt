use Rattle.std.specs.Prelude.{refl}
use Rattle.std.specs.Fmt.{digits}
use Rattle.chaos_bins.proofs.worked.five_particles.Goals as goal

pub returns-clause-lines : goal.returns-clause-lines
unfolding digits
returns-clause-lines c = refl
