use Rattle.std.proofs.Common.{◌≡◌, ◌++◌, length}
use Rattle.chaos_inspect.specs.Walking.{piece_values}
use Rattle.chaos_inspect.proofs.index.answer.Given as goal

abbrev pub invariant-loop-rest : goal.invariant-loop-rest
invariant-loop-rest l = l.values ++ piece_values l.pieces l.rest ≡ piece_values l.pieces l.asked

abbrev pub decreases-loop-rest : goal.decreases-loop-rest
decreases-loop-rest l = length l.rest
