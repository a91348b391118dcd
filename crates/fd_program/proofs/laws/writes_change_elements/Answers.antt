use Rattle.fd_program.specs.LoopLaws.{element_after_writes}
use Rattle.fd_program.proofs.laws.writes_change_elements.Goals as goal

pub returns : goal.returns
returns c = element_after_writes
