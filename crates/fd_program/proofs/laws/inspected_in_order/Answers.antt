use Rattle.fd_program.proofs.laws.inspected_in_order.Goals as goal
use Rattle.fd_program.specs.HomeLaws.{inspected_in_order as law}

pub returns : goal.returns
returns c = law
