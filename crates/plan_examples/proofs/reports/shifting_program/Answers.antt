use Rattle.std.specs.Prelude.{refl}
use Rattle.std.specs.Int.{int_wrap}
use Rattle.std.specs.Fmt.{digits}
use Rattle.plan_examples.proofs.reports.shifting_program.Goals as goal

pub returns : goal.returns
unfolding int_wrap digits
returns c = record { back = refl; back_report = refl; on = refl; on_report = refl }
