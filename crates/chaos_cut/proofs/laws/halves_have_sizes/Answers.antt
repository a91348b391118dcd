use Rattle.chaos_cut.proofs.laws.halves_have_sizes.Goals as goal
use Rattle.chaos_cut.specs.Regions.{halves_have_sizes}
use Rattle.chaos_cut.specs.Sizes.{cuts_are_fair, first_half_shares, second_half_shares}

pub returns-clause-fair : goal.returns-clause-fair
returns-clause-fair c = cuts_are_fair

pub returns-clause-first : goal.returns-clause-first
returns-clause-first c = first_half_shares

pub returns-clause-second : goal.returns-clause-second
returns-clause-second c = second_half_shares

pub returns-clause-lengths : goal.returns-clause-lengths
returns-clause-lengths c = halves_have_sizes
