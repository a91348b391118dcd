use Rattle.chaos_bins.proofs.laws.lines_are_shown.Goals as goal
use Rattle.chaos_bins.specs.Lines.{lines_are_shown as law}

pub returns : goal.returns
returns c = law
