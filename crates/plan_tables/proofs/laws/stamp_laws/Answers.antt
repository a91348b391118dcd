use Rattle.plan_tables.proofs.Stays.{goes_on_fitting, stays_entered}
use Rattle.plan_tables.proofs.laws.stamp_laws.Goals as goal

pub returns-clause-fits : goal.returns-clause-fits
returns-clause-fits c = goes_on_fitting

pub returns-clause-entered : goal.returns-clause-entered
returns-clause-entered c = stays_entered
