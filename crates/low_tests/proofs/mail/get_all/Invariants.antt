use Rattle.std.specs.List.{All}
use Rattle.bsp_mail.specs.Seats.{IsOpenOn}
use Rattle.low_tests.proofs.mail.get_all.Given as goal

abbrev pub invariant-loop-seat : goal.invariant-loop-seat
invariant-loop-seat g l = All (IsOpenOn l.queues) l.seats
