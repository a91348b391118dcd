use Rattle.chaos_remap.proofs.Composition.{arrays_stay}
use Rattle.chaos_remap.proofs.laws.remap_laws.Goals as goal

pub returns : goal.returns
returns c = arrays_stay
