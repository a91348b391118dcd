use Rattle.plan_run.specs.KeptLaws.{quiet_keeps_loops, other_loops_stay, inspected_is_kept, reused_is_kept}
use Rattle.plan_run.proofs.laws.steps_keep_loops.Goals as goal

pub returns-clause-quiet : goal.returns-clause-quiet
returns-clause-quiet c = quiet_keeps_loops

pub returns-clause-others : goal.returns-clause-others
returns-clause-others c = other_loops_stay

pub returns-clause-inspected : goal.returns-clause-inspected
returns-clause-inspected c = inspected_is_kept

pub returns-clause-reused : goal.returns-clause-reused
returns-clause-reused c = reused_is_kept
