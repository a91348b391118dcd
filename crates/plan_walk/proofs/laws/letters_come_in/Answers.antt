use Rattle.plan_walk.proofs.laws.letters_come_in.Goals as goal
use Rattle.plan_walk.specs.LetterLaws.{letters_come_in as law}

pub returns : goal.returns
returns c = law
