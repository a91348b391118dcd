use Rattle.chaos_bins.proofs.laws.steps_lead.Goals as goal
use Rattle.chaos_bins.specs.StepLaws.{steps_lead as law, steps_stay_within}

pub returns-clause-lead : goal.returns-clause-lead
returns-clause-lead c = law

pub returns-clause-within : goal.returns-clause-within
returns-clause-within c = steps_stay_within
