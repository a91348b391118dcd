use Rattle.std.proofs.Common.{◌≡◌, ◌*◌, drop}
use Rattle.chaos_move.specs.Moves.{applied}
use Rattle.chaos_move.specs.Undoing.{taken_back}
use Rattle.chaos_move.proofs.apply.apply_combined.Given as goal

abbrev pub invariant-loop-at : goal.invariant-loop-at
invariant-loop-at l = (applied l.operators (drop (3 * l.at) l.rows) (drop l.at l.all) l.pieces
    ≡ applied l.operators l.rows l.all l.fn.pieces)
    × (taken_back l.undo l.pieces ≡ taken_back l.fn.undo l.fn.pieces)
