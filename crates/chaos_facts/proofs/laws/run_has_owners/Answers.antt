use Rattle.chaos_facts.proofs.Owned.{run_has_owners, run_keeps_extents}
use Rattle.chaos_facts.proofs.laws.run_has_owners.Goals as goal

pub returns-clause-owners : goal.returns-clause-owners
returns-clause-owners c = run_has_owners

pub returns-clause-extents : goal.returns-clause-extents
returns-clause-extents c = run_keeps_extents
