use Rattle.std.specs.Prelude.{refl}
use Rattle.chaos_bins.proofs.worked.five_letters.Goals as goal

pub returns-clause-out : goal.returns-clause-out
returns-clause-out c = refl

pub returns-clause-back : goal.returns-clause-back
returns-clause-back c = refl
