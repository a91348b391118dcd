use Rattle.plan_letters.proofs.laws.others_ask_nothing.Goals as goal
use Rattle.plan_letters.specs.InspectionLetters.{others_ask_nothing, loops_ask_nothing}

pub returns-clause-steps : goal.returns-clause-steps
returns-clause-steps c = others_ask_nothing

pub returns-clause-loops : goal.returns-clause-loops
returns-clause-loops c = loops_ask_nothing
