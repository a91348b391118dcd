use Rattle.chaos_sched.proofs.Agreement.{sides_agree, lists_ascend}
use Rattle.chaos_sched.proofs.laws.schedule_laws.Goals as goal

pub returns-clause-sides : goal.returns-clause-sides
returns-clause-sides c = sides_agree

pub returns-clause-order : goal.returns-clause-order
returns-clause-order c = lists_ascend
