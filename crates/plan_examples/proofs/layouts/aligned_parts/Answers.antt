use Rattle.std.specs.Prelude.{refl}
use Rattle.plan_examples.proofs.layouts.aligned_parts.Goals as goal

pub returns : goal.returns
returns c = record { block = refl; next_block = refl; cyclic = refl; next_cyclic = refl }
