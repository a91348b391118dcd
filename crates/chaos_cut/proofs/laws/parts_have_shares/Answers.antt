use Rattle.chaos_cut.proofs.laws.parts_have_shares.Goals as goal
use Rattle.chaos_cut.specs.Shares.{parts_have_shares as law}

pub returns : goal.returns
returns c = law
