use Rattle.std.specs.Prelude.{refl}
use Rattle.std.specs.Int.{int_wrap}
use Rattle.std.specs.Fmt.{digits}
use Rattle.plan_examples.proofs.reports.scattering_program.Goals as goal

pub returns : goal.returns
unfolding int_wrap digits
returns c = record { text = refl; owner = refl; most = refl; alone = refl; many = refl }
