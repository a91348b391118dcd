use Rattle.fd_program.proofs.laws.contributions_make_elements.Goals as goal
use Rattle.fd_program.specs.ContributionLaws.{contributions_make_elements as law}

pub returns : goal.returns
returns c = law
