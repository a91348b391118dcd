use Rattle.fd_program.proofs.laws.votes_tell.Goals as goal
use Rattle.fd_program.specs.VoteLaws.{votes_tell as law}

pub returns : goal.returns
returns c = law
