use Rattle.plan_letters.proofs.laws.others_carry_nothing.Goals as goal
use Rattle.plan_letters.specs.DataLetters.{others_carry_nothing as law}

pub returns : goal.returns
returns c = law
