use Rattle.chaos_begin.proofs.Kept.{kept_are_latest}
use Rattle.chaos_begin.proofs.laws.kept_are_latest.Goals as goal

pub returns : goal.returns
returns c = kept_are_latest
