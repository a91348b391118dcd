use Rattle.std.proofs.Common.{ap, ◌∙◌}
use Rattle.chaos_sched.specs.Scheduled.{in_order, asked_by}
use Rattle.chaos_sched.proofs.asked.asked.Goals as goal

pub returns : goal.returns
unfolding asked_by
returns c = c.put_in_order.ensures ∙ ap in_order c.in_ok-items.ensures
