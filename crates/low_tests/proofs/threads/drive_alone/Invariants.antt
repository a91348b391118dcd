use Rattle.std.proofs.Common.{◌≡◌}
use Rattle.bsp_mail.specs.Seats.{IsOpenOn}
use Rattle.low_tests.proofs.threads.drive_alone.Given as goal

abbrev pub invariant-loop-sent : goal.invariant-loop-sent
invariant-loop-sent g l = IsOpenOn l.queues l.other × (l.other.me ≡ 1)
