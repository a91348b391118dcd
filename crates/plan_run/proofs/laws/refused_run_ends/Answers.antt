use Rattle.plan_run.specs.CutLaws.{refused_ends_at_vote, run_is_completed}
use Rattle.plan_run.proofs.laws.refused_run_ends.Goals as goal

pub returns-clause-phases : goal.returns-clause-phases
returns-clause-phases c = refused_ends_at_vote

pub returns-clause-steps : goal.returns-clause-steps
returns-clause-steps c = run_is_completed
