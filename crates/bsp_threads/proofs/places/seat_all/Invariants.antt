use Rattle.std.proofs.Common.{◌≡◌, length, vec_capacity}
use Rattle.bsp_threads.specs.Alls.{AreSeated, SameFrom}
use Rattle.bsp_threads.proofs.places.seat_all.Given as goal

abbrev pub invariant-loop-node : goal.invariant-loop-node
invariant-loop-node g l =
    (goal.iterator-loop-node g).can_next l.node-iterator × (goal.iterator-loop-node g).is_finite l.node-iterator
    × (vec_capacity l.seats ≡ vec_capacity l.initial.seats)
    × AreSeated l.yielded l.initial.mails.items l.seats.items
    × SameFrom (length l.yielded) l.initial.mails.items l.mails.items
