use Rattle.chaos_move.proofs.Arriving.{gathers_arrive, scatters_arrive}
use Rattle.chaos_move.proofs.laws.move_laws.Goals as goal

pub returns-clause-gather : goal.returns-clause-gather
returns-clause-gather c = gathers_arrive

pub returns-clause-scatter : goal.returns-clause-scatter
returns-clause-scatter c = scatters_arrive
