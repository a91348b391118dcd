use Rattle.std.proofs.Common.{◌≡◌, map, take}
use Rattle.chaos_moving.specs.Asks.{asks_named}
use Rattle.chaos_moving.proofs.asks.name_all.Given as goal

abbrev pub invariant-loop-list : goal.invariant-loop-list
invariant-loop-list l = l.lists ≡ map (asks_named l.decomposition) (take l.list-index l.asks)
