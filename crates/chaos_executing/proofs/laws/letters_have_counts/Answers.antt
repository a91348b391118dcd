use Rattle.chaos_executing.proofs.Counting.{counts_are_reported, gather_has_counts, scatter_has_counts}
use Rattle.chaos_executing.proofs.laws.letters_have_counts.Goals as goal

pub returns-clause-gather : goal.returns-clause-gather
returns-clause-gather c = gather_has_counts

pub returns-clause-scatter : goal.returns-clause-scatter
returns-clause-scatter c = scatter_has_counts

pub returns-clause-reported : goal.returns-clause-reported
returns-clause-reported c = counts_are_reported
