use Rattle.chaos_bins.proofs.laws.sorted_pairs.Goals as goal
use Rattle.chaos_bins.specs.Ascending.{pairs_are_sorted, sorted_pairs_are_only}

pub returns-clause-sorted : goal.returns-clause-sorted
returns-clause-sorted c = pairs_are_sorted

pub returns-clause-only : goal.returns-clause-only
returns-clause-only c = sorted_pairs_are_only
