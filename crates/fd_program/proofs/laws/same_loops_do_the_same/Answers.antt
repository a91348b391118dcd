use Rattle.fd_program.specs.SameLoops.{same_loops}
use Rattle.fd_program.proofs.laws.same_loops_do_the_same.Goals as goal

pub returns : goal.returns
returns c = same_loops
