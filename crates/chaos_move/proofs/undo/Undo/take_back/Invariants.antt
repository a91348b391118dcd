use Rattle.std.proofs.Common.{◌≡◌, length}
use Rattle.chaos_move.specs.Undoing.{taken_back}
use Rattle.chaos_move.proofs.undo.Undo.take_back.Given as goal

abbrev pub invariant-loop-kept : goal.invariant-loop-kept
invariant-loop-kept l = taken_back l.self-inside.kept.items l.lists ≡ taken_back l.fn.self l.fn.lists

abbrev pub decreases-loop-kept : goal.decreases-loop-kept
decreases-loop-kept l = length l.self-inside.kept.items
