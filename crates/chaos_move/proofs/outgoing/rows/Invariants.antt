use Rattle.std.proofs.Common.{◌≡◌, take}
use Rattle.chaos_move.specs.Moves.{packed_by}
use Rattle.chaos_move.proofs.outgoing.rows.Given as goal

abbrev pub invariant-loop-item : goal.invariant-loop-item
invariant-loop-item l = l.numbers ≡ packed_by l.by_slot l.lists (take l.item-index l.items)
