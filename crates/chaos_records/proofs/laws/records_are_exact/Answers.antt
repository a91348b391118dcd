use Rattle.chaos_records.proofs.Kept.{records_are_exact}
use Rattle.chaos_records.proofs.laws.records_are_exact.Goals as goal

pub returns : goal.returns
returns c = records_are_exact
