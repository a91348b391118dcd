use Rattle.chaos_bins.proofs.laws.sorted_values.Goals as goal
use Rattle.chaos_bins.specs.Ascending.{sorted_ascends, sorted_is_only, sorted_is_same}

pub returns-clause-same : goal.returns-clause-same
returns-clause-same c = sorted_is_same

pub returns-clause-ascend : goal.returns-clause-ascend
returns-clause-ascend c = sorted_ascends

pub returns-clause-only : goal.returns-clause-only
returns-clause-only c = sorted_is_only
