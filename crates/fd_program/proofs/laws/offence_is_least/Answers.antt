use Rattle.fd_program.specs.OffenceLaws.{offence_is_least}
use Rattle.fd_program.proofs.laws.offence_is_least.Goals as goal

pub returns : goal.returns
returns c = offence_is_least
