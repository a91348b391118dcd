use Rattle.plan_walk.specs.PhaseBegins.{left_begins, phases_follow, votes_pass}
use Rattle.plan_walk.proofs.laws.phases_begin.Goals as goal

pub returns-clause-steps : goal.returns-clause-steps
returns-clause-steps c = left_begins

pub returns-clause-others : goal.returns-clause-others
returns-clause-others c = phases_follow

pub returns-clause-votes : goal.returns-clause-votes
returns-clause-votes c = votes_pass
