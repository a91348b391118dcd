use Rattle.std.proofs.Common.{◌≡◌, map, take}
use Rattle.inspect_places.specs.Telling.{told_by}
use Rattle.inspect_places.proofs.answering.answer_all.Given as goal

abbrev pub invariant-loop-list : goal.invariant-loop-list
invariant-loop-list l = l.lists ≡ map (told_by l.pages) (take l.list-index l.asked)
