use Rattle.std.specs.Prelude.{refl}
use Rattle.plan_examples.proofs.layouts.mapped_places.Goals as goal

pub returns : goal.returns
returns c = record { owners = refl; locals = refl }
