use Rattle.plan_run.specs.StandLaws.{quiet_stands, loop_stands, move_stands}
use Rattle.plan_run.proofs.laws.steps_stand.Goals as goal

pub returns-clause-quiet : goal.returns-clause-quiet
returns-clause-quiet c = quiet_stands

pub returns-clause-loops : goal.returns-clause-loops
returns-clause-loops c = loop_stands

pub returns-clause-moves : goal.returns-clause-moves
returns-clause-moves c = move_stands
