use Rattle.fd_program.proofs.laws.cells_are_in_order.Goals as goal
use Rattle.fd_program.specs.CellsLaws.{cells_are_in_order as law}

pub returns : goal.returns
returns c = law
