use Rattle.chaos_inspect.specs.PhaseLaws.{phases_follow}
use Rattle.chaos_inspect.proofs.laws.phases_follow.Goals as goal

pub returns : goal.returns
returns c = phases_follow
