use Rattle.fd_program.specs.CombinedLaws.{combining_splits}
use Rattle.fd_program.proofs.laws.combining_splits.Goals as goal

pub returns : goal.returns
returns c = combining_splits
