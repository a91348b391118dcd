use Rattle.std.specs.Prelude.{refl}
use Rattle.std.specs.Int.{int_wrap}
use Rattle.plan_examples.proofs.told.mapping_tells.Goals as goal

pub returns : goal.returns
unfolding int_wrap
returns c = record { asked = refl; unvoted = refl; votes = refl; carried = refl }
