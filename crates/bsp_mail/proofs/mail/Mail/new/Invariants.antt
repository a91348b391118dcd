use Rattle.bsp_mail.specs.Opens.{IsOpening}
use Rattle.bsp_mail.proofs.mail.Mail.new.Given as goal

abbrev pub invariant-loop-from : goal.invariant-loop-from
invariant-loop-from l = IsOpening l.mail.queues l.mail.seats.items l.from 0
