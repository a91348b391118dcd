use Rattle.std.proofs.Common.{◌≡◌, map}
use Rattle.std.specs.List.{range_with_len}
use Rattle.chaos_sched.specs.Scheduled.{needed_from}
use Rattle.chaos_sched.proofs.schedule.needed_lists.Given as goal

abbrev pub invariant-loop-owner : goal.invariant-loop-owner
invariant-loop-owner l = l.lists ≡ map (λ q. needed_from l.role q l.needs) (range_with_len 0 l.owner)
