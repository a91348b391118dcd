use Rattle.plan_walk.specs.LetterLaws.{move_answers_are_known, page_counts_are_known, place_answers_are_known, index_values_are_known}
use Rattle.plan_walk.specs.LetterLaws.{gathers_are_known, scatters_are_known}
use Rattle.plan_walk.proofs.laws.lengths_are_known.Goals as goal

pub returns-clause-moves : goal.returns-clause-moves
returns-clause-moves c = move_answers_are_known

pub returns-clause-pages : goal.returns-clause-pages
returns-clause-pages c = page_counts_are_known

pub returns-clause-places : goal.returns-clause-places
returns-clause-places c = place_answers_are_known

pub returns-clause-values : goal.returns-clause-values
returns-clause-values c = index_values_are_known

pub returns-clause-gathers : goal.returns-clause-gathers
returns-clause-gathers c = gathers_are_known

pub returns-clause-scatters : goal.returns-clause-scatters
returns-clause-scatters c = scatters_are_known
