use Rattle.chaos_cut.proofs.laws.found_keys_cut.Goals as goal
use Rattle.chaos_cut.specs.Regions.{keys_cut}
use Rattle.chaos_cut.specs.Search.{first_are_as_many, found_divides}

pub returns-clause-divides : goal.returns-clause-divides
returns-clause-divides c = found_divides

pub returns-clause-as_many : goal.returns-clause-as_many
returns-clause-as_many c = first_are_as_many

pub returns-clause-regions : goal.returns-clause-regions
returns-clause-regions c = keys_cut
