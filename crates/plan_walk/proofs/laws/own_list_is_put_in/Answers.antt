use Rattle.plan_walk.specs.LetterLaws.{own_list_is_put_in, first_takes_all}
use Rattle.plan_walk.proofs.laws.own_list_is_put_in.Goals as goal

pub returns-clause-all : goal.returns-clause-all
returns-clause-all c = own_list_is_put_in

pub returns-clause-first : goal.returns-clause-first
returns-clause-first c = first_takes_all
