use Rattle.plan_letters.proofs.laws.data_is_carried.Goals as goal
use Rattle.plan_letters.specs.DataLetters.{needed_is_carried, given_is_carried}

pub returns-clause-needed : goal.returns-clause-needed
returns-clause-needed c = needed_is_carried

pub returns-clause-given : goal.returns-clause-given
returns-clause-given c = given_is_carried
