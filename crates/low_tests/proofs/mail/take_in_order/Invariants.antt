use Rattle.bsp_mail.specs.Seats.{IsOpenOn}
use Rattle.low_tests.proofs.mail.take_in_order.Given as goal

abbrev pub invariant-loop : goal.invariant-loop
invariant-loop g l = (goal.iterator-loop g).can_next l.iterator' × (goal.iterator-loop g).is_finite l.iterator' × IsOpenOn l.queues l.seat
