use Rattle.chaos_conflict.specs.RowLaws.{rows_are_in_order, rows_are_read}
use Rattle.chaos_conflict.specs.ClashLaws.{adjacent_is_least, one_is_least}
use Rattle.chaos_conflict.specs.PartLaws.{first_is_least}
use Rattle.chaos_conflict.specs.VoteLaws.{read_clash-numbers}
use Rattle.chaos_conflict.proofs.laws.conflict_laws.Goals as goal

pub returns-clause-some : goal.returns-clause-some
returns-clause-some c o small fits = read_clash-numbers o small fits

pub returns-clause-read : goal.returns-clause-read
returns-clause-read c = rows_are_read

pub returns-clause-order : goal.returns-clause-order
returns-clause-order c = rows_are_in_order

pub returns-clause-adjacent : goal.returns-clause-adjacent
returns-clause-adjacent c = adjacent_is_least

pub returns-clause-one : goal.returns-clause-one
returns-clause-one c = one_is_least

pub returns-clause-first : goal.returns-clause-first
returns-clause-first c = first_is_least
