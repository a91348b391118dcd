use Rattle.inspect_places.proofs.Letters.{answers_owed, asks_sent, kept_wanted, wanted_asked}
use Rattle.inspect_places.proofs.laws.wanted_are_asked.Goals as goal

pub returns-clause-wanted : goal.returns-clause-wanted
returns-clause-wanted c = wanted_asked

pub returns-clause-asks : goal.returns-clause-asks
returns-clause-asks c = asks_sent

pub returns-clause-answers : goal.returns-clause-answers
returns-clause-answers c = answers_owed

pub returns-clause-kept : goal.returns-clause-kept
returns-clause-kept c = kept_wanted
