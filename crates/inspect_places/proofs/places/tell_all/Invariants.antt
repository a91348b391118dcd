use Rattle.std.proofs.Common.{◌≡◌, ◌++◌, drop, replicate}
use Rattle.inspect_places.specs.Telling.{told_all}
use Rattle.inspect_places.proofs.places.tell_all.Given as goal

abbrev pub invariant-loop-list : goal.invariant-loop-list
invariant-loop-list l = l.lists ++ told_all l.answers l.drawn (drop l.list-index l.wanted) ≡ told_all l.answers (replicate 16 0) l.wanted
