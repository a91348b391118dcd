use Rattle.std.proofs.Common.{◌≡◌, map, take}
use Rattle.chaos_deref.specs.Asking.{answers_to}
use Rattle.chaos_moving.proofs.asks.answer_all.Given as goal

abbrev pub invariant-loop-list : goal.invariant-loop-list
invariant-loop-list l = l.lists ≡ map (answers_to l.page) (take l.list-index l.asked)
