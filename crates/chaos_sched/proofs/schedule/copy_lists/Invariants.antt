use Rattle.std.proofs.Common.{◌≡◌, take}
use Rattle.chaos_sched.proofs.schedule.copy_lists.Given as goal

abbrev pub invariant-loop-items : goal.invariant-loop-items
invariant-loop-items l = l.copy ≡ take l.items-index l.all
