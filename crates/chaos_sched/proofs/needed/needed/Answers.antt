use Rattle.std.proofs.Common.{ap, ◌∙◌}
use Rattle.chaos_sched.specs.Scheduled.{in_order, needed_from}
use Rattle.chaos_sched.proofs.needed.needed.Goals as goal

pub returns : goal.returns
unfolding needed_from
returns c = c.put_in_order.ensures ∙ ap in_order c.in_ok-items.ensures
