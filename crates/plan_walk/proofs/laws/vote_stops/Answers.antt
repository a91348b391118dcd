use Rattle.plan_walk.specs.PhaseBegins.{votes_stop, votes_decide, only_inspections_stop}
use Rattle.plan_walk.proofs.laws.vote_stops.Goals as goal

pub returns-clause-votes : goal.returns-clause-votes
returns-clause-votes c = votes_stop

pub returns-clause-decided : goal.returns-clause-decided
returns-clause-decided c = votes_decide

pub returns-clause-others : goal.returns-clause-others
returns-clause-others c = only_inspections_stop
