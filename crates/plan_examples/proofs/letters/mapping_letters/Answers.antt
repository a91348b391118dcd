use Rattle.std.specs.Prelude.{refl}
use Rattle.std.specs.Int.{int_wrap}
use Rattle.plan_examples.proofs.letters.mapping_letters.Goals as goal

pub returns : goal.returns
unfolding int_wrap
returns c = record { out = refl; back = refl }
