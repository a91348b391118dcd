use Rattle.std.proofs.Common.{◌≡◌, take}
use Rattle.chaos_moving.specs.Asks.{asks_named}
use Rattle.chaos_moving.proofs.asks.name_asks.Given as goal

abbrev pub invariant-loop-element : goal.invariant-loop-element
invariant-loop-element l = l.numbers ≡ asks_named l.decomposition (take l.element-index l.asks)
