use Rattle.bsp_mail.specs.Opens.{IsOpening}
use Rattle.bsp_mail.proofs.mail.Mail.open_row.Given as goal

abbrev pub invariant-loop-to : goal.invariant-loop-to
invariant-loop-to l = IsOpening l.self.queues l.self.seats.items l.from l.to
