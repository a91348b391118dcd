use Rattle.std.proofs.Common.{◌≡◌, ◌++◌, take}
use Rattle.std.specs.List.{flat_map}
use Rattle.chaos_sched.specs.Scheduled.{ask_row}
use Rattle.chaos_sched.proofs.asks.add_rows.Given as goal

abbrev pub invariant-loop-item : goal.invariant-loop-item
invariant-loop-item l = l.ask ≡ l.fn.ask ++ flat_map (ask_row l.number) (take l.item-index l.items)
