use Rattle.fd_program.proofs.laws.initial_store_fits.Goals as goal
use Rattle.fd_program.specs.StoreLaws.{initial_store_fits as law}

pub returns : goal.returns
returns c = law
