use Rattle.plan_run.specs.OwnerLaws.{quiet_keeps_owners}
use Rattle.plan_run.proofs.laws.owners_stay.Goals as goal

-- src/laws.rt:78:1
pub returns-clause-owners : goal.returns-clause-owners
returns-clause-owners c = quiet_keeps_owners
