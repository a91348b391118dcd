use Rattle.chaos_print.proofs.Lines.{lines_are_printed}
use Rattle.chaos_print.proofs.laws.lines_are_printed.Goals as goal

pub returns : goal.returns
returns c = lines_are_printed
