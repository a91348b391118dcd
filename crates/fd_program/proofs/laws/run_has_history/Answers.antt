use Rattle.fd_program.specs.RunLaws.{run_has_history}
use Rattle.fd_program.proofs.laws.run_has_history.Goals as goal

pub returns : goal.returns
returns c = run_has_history
