use Rattle.std.specs.Prelude.{refl}
use Rattle.std.specs.Int.{int_wrap}
use Rattle.plan_examples.proofs.told.scattering_tells.Goals as goal

pub returns : goal.returns
unfolding int_wrap
returns c = record { votes = refl; needed = refl; carried = refl; none = refl }
