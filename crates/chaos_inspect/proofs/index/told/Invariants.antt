use Rattle.std.proofs.Common.{◌≡◌, take, map}
use Rattle.chaos_inspect.specs.Walking.{piece_values}
use Rattle.chaos_inspect.proofs.index.told.Given as goal

abbrev pub invariant-loop-numbers : goal.invariant-loop-numbers
invariant-loop-numbers l = l.lists ≡ map (piece_values l.pieces) (take l.numbers-index l.asked)
