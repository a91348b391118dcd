use Rattle.plan_letters.proofs.laws.loops_are_carried.Goals as goal
use Rattle.plan_letters.specs.DataLetters.{loops_are_carried as law}

pub returns : goal.returns
returns c = law
