use Rattle.plan_letters.proofs.laws.votes_stand.Goals as goal
use Rattle.plan_letters.specs.InspectionLetters.{votes_stand, vote_stands_where}

pub returns-clause-votes : goal.returns-clause-votes
returns-clause-votes c = votes_stand

pub returns-clause-one : goal.returns-clause-one
returns-clause-one c = vote_stands_where
