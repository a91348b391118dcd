-- The letters of a Mail, beside those that are due in a run.
use Rattle.std.specs.Prelude.{ℤ, List}
use Rattle.bsp_mail.specs.declared.seat.MailSeat.{MailSeat}
use Rattle.bsp_threads.specs.Due.{ArePairsCut, ArePairsDue}
use Rattle.chaos_holdings.specs.declared.session.Session.{Session}
use Rattle.plan_run.specs.Phases.{due_list}

-- each pair has sent and taken the letters that are due, in their order
abbrev pub HasDueLists : Session → List (List ℤ) → List MailSeat → Type 0
HasDueLists s store mails = ArePairsDue s.nodes (due_list s.checked s.nodes s.rule store) mails

-- each pair has sent the first of the letters that are due, and no other
abbrev pub AreWithinDue : Session → List (List ℤ) → List MailSeat → Type 0
AreWithinDue s store mails = ArePairsCut s.nodes (due_list s.checked s.nodes s.rule store) mails
