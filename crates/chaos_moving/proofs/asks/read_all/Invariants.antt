use Rattle.std.proofs.Common.{◌≡◌, map, take}
use Rattle.chaos_moving.specs.Asks.{asked_in}
use Rattle.chaos_moving.proofs.asks.read_all.Given as goal

abbrev pub invariant-loop-list : goal.invariant-loop-list
invariant-loop-list l = l.lists ≡ map (asked_in) (take l.list-index l.taken)
