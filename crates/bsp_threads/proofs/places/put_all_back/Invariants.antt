use Rattle.std.proofs.Common.{◌≡◌, length, vec_capacity}
use Rattle.bsp_threads.specs.Alls.{AreBack, SameFrom}
use Rattle.bsp_threads.proofs.places.put_all_back.Given as goal

abbrev pub invariant-loop-seat : goal.invariant-loop-seat
invariant-loop-seat g l =
    (goal.iterator-loop-seat g).can_next l.seat-iterator × (goal.iterator-loop-seat g).is_finite l.seat-iterator
    × (vec_capacity l.nodes ≡ vec_capacity l.initial.nodes)
    × AreBack l.yielded l.nodes.items l.mails.items
    × SameFrom (length l.yielded) l.initial.mails.items l.mails.items
