use Rattle.plan_letters.proofs.laws.inspection_letters_stand.Goals as goal
use Rattle.plan_letters.specs.InspectionLetters.{inspection_letters_stand, place_letters_stand}

pub returns-clause-alone : goal.returns-clause-alone
returns-clause-alone c = inspection_letters_stand

pub returns-clause-places : goal.returns-clause-places
returns-clause-places c = place_letters_stand
