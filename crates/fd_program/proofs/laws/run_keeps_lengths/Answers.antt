use Rattle.fd_program.proofs.laws.run_keeps_lengths.Goals as goal
use Rattle.fd_program.specs.StoreLaws.{run_keeps_lengths as law}

pub returns : goal.returns
returns c = law
