use Rattle.plan_run.specs.OwnerLaws.{move_changes_one}
use Rattle.plan_run.proofs.laws.move_changes_one.Goals as goal

-- src/laws.rt:86:1
pub returns : goal.returns
returns c = move_changes_one
