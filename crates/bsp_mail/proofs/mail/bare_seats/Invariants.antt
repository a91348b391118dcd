use Rattle.bsp_mail.specs.Opens.{AreBare}
use Rattle.bsp_mail.proofs.mail.bare_seats.Given as goal

abbrev pub invariant-loop-me : goal.invariant-loop-me
invariant-loop-me l = AreBare l.seats.items l.me
