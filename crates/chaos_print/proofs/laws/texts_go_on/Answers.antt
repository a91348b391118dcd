use Rattle.chaos_print.proofs.InPlan.{outputs_begin, outputs_end, outputs_go_on, prints_go_on}
use Rattle.chaos_print.proofs.laws.texts_go_on.Goals as goal

pub returns : goal.returns
returns c = record { prints = prints_go_on; outputs = outputs_go_on; begins = outputs_begin; ends = outputs_end }
