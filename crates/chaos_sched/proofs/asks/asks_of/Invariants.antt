use Rattle.std.proofs.Common.{◌≡◌, map}
use Rattle.std.specs.List.{range_with_len}
use Rattle.chaos_sched.specs.Scheduled.{ask_to}
use Rattle.chaos_sched.proofs.asks.asks_of.Given as goal

abbrev pub invariant-loop-owner : goal.invariant-loop-owner
invariant-loop-owner l = l.asks ≡ map (λ q. ask_to q l.needs) (range_with_len 0 l.owner)
