use Rattle.plan_run.specs.TableLaws.{stamps_keep_inspections, tables_keep_loops, move_keeps_loops}
use Rattle.plan_run.proofs.laws.tables_keep_loops.Goals as goal

pub returns-clause-stamps : goal.returns-clause-stamps
returns-clause-stamps c = stamps_keep_inspections

pub returns-clause-tables : goal.returns-clause-tables
returns-clause-tables c = tables_keep_loops

pub returns-clause-moves : goal.returns-clause-moves
returns-clause-moves c = move_keeps_loops
