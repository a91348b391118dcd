use Rattle.std.proofs.Common.{◌≡◌, ◌*◌, drop}
use Rattle.chaos_move.specs.Moves.{unpacked}
use Rattle.chaos_move.proofs.incoming.unpack.Given as goal

abbrev pub invariant-loop-at : goal.invariant-loop-at
invariant-loop-at l = unpacked (drop (3 * l.at) l.rows) (drop l.at l.all) l.ghosts ≡ unpacked l.rows l.all l.fn.ghosts
