use Rattle.chaos_cut.proofs.laws.told_is_whole.Goals as goal
use Rattle.chaos_cut.specs.Told.{counts_add_up, greatest_is_told, least_is_told}

pub returns-clause-counts : goal.returns-clause-counts
returns-clause-counts c = counts_add_up

pub returns-clause-least : goal.returns-clause-least
returns-clause-least c = least_is_told

pub returns-clause-greatest : goal.returns-clause-greatest
returns-clause-greatest c = greatest_is_told
