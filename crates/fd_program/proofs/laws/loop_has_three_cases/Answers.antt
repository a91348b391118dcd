use Rattle.fd_program.specs.LoopCases.{three_cases}
use Rattle.fd_program.proofs.laws.loop_has_three_cases.Goals as goal

pub returns : goal.returns
returns c = three_cases
