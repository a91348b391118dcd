use Rattle.plan_walk.specs.Walking.{stage_is_phase, stage_follows, stage_follows_vote, outputs_follow_vote, step_follows}
use Rattle.plan_walk.proofs.laws.stages_are_walked.Goals as goal

pub returns-clause-present : goal.returns-clause-present
returns-clause-present c = stage_is_phase

pub returns-clause-next : goal.returns-clause-next
returns-clause-next c = stage_follows

pub returns-clause-votes : goal.returns-clause-votes
returns-clause-votes c = stage_follows_vote

pub returns-clause-refused : goal.returns-clause-refused
returns-clause-refused c = outputs_follow_vote

pub returns-clause-last : goal.returns-clause-last
returns-clause-last c = step_follows
