use Rattle.fd_program.specs.SubscriptLaws.{subscripts_are_exact}
use Rattle.fd_program.proofs.laws.subscripts_are_exact.Goals as goal

pub returns : goal.returns
returns c = subscripts_are_exact
