use Rattle.fd_program.proofs.laws.homes_are_once.Goals as goal
use Rattle.fd_program.specs.HomeLaws.{homes_are_once as law}

pub returns : goal.returns
returns c = law
