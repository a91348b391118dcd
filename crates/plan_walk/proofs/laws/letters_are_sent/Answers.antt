use Rattle.plan_walk.specs.LetterLaws.{letters_are_sent, letters_are_taken, rows_are_made, all_lists_are_sent, print_is_sent}
use Rattle.plan_walk.specs.LetterLaws.{all_lengths_are_counted, free_is_counted}
use Rattle.plan_walk.proofs.laws.letters_are_sent.Goals as goal

pub returns-clause-sends : goal.returns-clause-sends
returns-clause-sends c = letters_are_sent

pub returns-clause-takes : goal.returns-clause-takes
returns-clause-takes c = letters_are_taken

pub returns-clause-rows : goal.returns-clause-rows
returns-clause-rows c = rows_are_made

pub returns-clause-lists : goal.returns-clause-lists
returns-clause-lists c = all_lists_are_sent

pub returns-clause-prints : goal.returns-clause-prints
returns-clause-prints c = print_is_sent

pub returns-clause-lengths : goal.returns-clause-lengths
returns-clause-lengths c = all_lengths_are_counted

pub returns-clause-unknown : goal.returns-clause-unknown
returns-clause-unknown c = free_is_counted
