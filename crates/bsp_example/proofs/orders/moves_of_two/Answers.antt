use Rattle.std.proofs.Common.{refl}
use Rattle.bsp_example.proofs.orders.moves_of_two.Goals as goal

pub returns : goal.returns
returns c = record { rounds = refl; rounds_set = refl; drawn = refl }
