use Rattle.fd_program.proofs.laws.executed_in_order.Goals as goal
use Rattle.fd_program.specs.VoteLaws.{executed_in_order as law}

pub returns : goal.returns
returns c = law
