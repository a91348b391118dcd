use Rattle.bsp_mail.specs.Seats.{IsOpenOn}
use Rattle.low_tests.proofs.mail.count_empty.Given as goal

abbrev pub invariant-loop-from : goal.invariant-loop-from
invariant-loop-from g l = IsOpenOn l.queues l.seat
