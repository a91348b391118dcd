use Rattle.chaos_begin.proofs.Kept.{stages_are_begun}
use Rattle.chaos_begin.proofs.laws.stages_are_begun.Goals as goal

pub returns : goal.returns
returns c = stages_are_begun
