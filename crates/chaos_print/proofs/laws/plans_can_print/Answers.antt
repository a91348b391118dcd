use Rattle.chaos_print.proofs.InPlan.{plans_can_print}
use Rattle.chaos_print.proofs.laws.plans_can_print.Goals as goal

pub returns : goal.returns
returns c = plans_can_print
