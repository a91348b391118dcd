use Rattle.fd_program.specs.UsesLaws.{uses_are_told}
use Rattle.fd_program.proofs.laws.uses_are_told.Goals as goal

pub returns : goal.returns
returns c = uses_are_told
