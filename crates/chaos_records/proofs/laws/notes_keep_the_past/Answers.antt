use Rattle.chaos_records.proofs.Kept.{new_keeps, print_keeps, writes_keep, move_keeps, versions_are_few}
use Rattle.chaos_records.proofs.laws.notes_keep_the_past.Goals as goal

pub returns-clause-new : goal.returns-clause-new
returns-clause-new c = new_keeps

pub returns-clause-print : goal.returns-clause-print
returns-clause-print c = print_keeps

pub returns-clause-writes : goal.returns-clause-writes
returns-clause-writes c = writes_keep

pub returns-clause-moves : goal.returns-clause-moves
returns-clause-moves c = move_keeps

pub returns-clause-few : goal.returns-clause-few
returns-clause-few c = versions_are_few
