use Rattle.plan_run.specs.PreparedLaws.{others_stay_prepared}
use Rattle.plan_run.proofs.laws.others_stay_prepared.Goals as goal

pub returns : goal.returns
returns c = others_stay_prepared c.stamp_laws.ensures.fits c.stamp_laws.ensures.entered
