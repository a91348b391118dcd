use Rattle.chaos_print.proofs.CameIn.{letters_came_in}
use Rattle.chaos_print.proofs.laws.letters_came_in.Goals as goal

pub returns : goal.returns
returns c = letters_came_in
