use Rattle.bsp_mail.specs.Seats.{IsOpenOn}
use Rattle.low_tests.proofs.mail.send_all.Given as goal

abbrev pub invariant-loop-n : goal.invariant-loop-n
invariant-loop-n g l = IsOpenOn l.queues l.seat
