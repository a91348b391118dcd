use Rattle.chaos_records.proofs.Kept.{inspections_are_known}
use Rattle.chaos_records.proofs.laws.inspections_are_known.Goals as goal

pub returns : goal.returns
returns c = inspections_are_known
