use Rattle.std.specs.Prelude.{refl}
use Rattle.std.specs.Int.{int_wrap}
use Rattle.plan_examples.proofs.moves.scattering_moves.Goals as goal

pub returns : goal.returns
unfolding int_wrap
returns c = record { two = refl; alone = refl }
