use Rattle.std.proofs.Common.{◌≡◌, ◌*◌, ◌++◌, drop}
use Rattle.std.specs.List.{flat_map}
use Rattle.chaos_table.specs.Pages.{pairs_in}
use Rattle.inspect_places.specs.Telling.{answer_row, told_by}
use Rattle.inspect_places.proofs.answering.answer.Given as goal

abbrev pub invariant-loop-i : goal.invariant-loop-i
invariant-loop-i l = l.numbers ++ flat_map (answer_row l.pages) (pairs_in (drop (2 * l.i) l.asked)) ≡ told_by l.pages l.asked
