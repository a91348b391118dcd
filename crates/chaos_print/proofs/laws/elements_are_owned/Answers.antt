use Rattle.chaos_print.proofs.Owned.{elements_are_owned}
use Rattle.chaos_print.proofs.laws.elements_are_owned.Goals as goal

pub returns : goal.returns
returns c = elements_are_owned
