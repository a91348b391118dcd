use Rattle.plan_letters.proofs.laws.data_stands.Goals as goal
use Rattle.plan_letters.specs.DataLetters.{gathers_stand, scatters_stand, data_stands_where}

pub returns-clause-gathers : goal.returns-clause-gathers
returns-clause-gathers c = gathers_stand

pub returns-clause-scatters : goal.returns-clause-scatters
returns-clause-scatters c = scatters_stand

pub returns-clause-one : goal.returns-clause-one
returns-clause-one c = data_stands_where
