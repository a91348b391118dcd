-- The letters of a Mail by which particles were appended.
use Rattle.std.specs.Prelude.{◌≢◌, ℕ, ◌<◌, List}
use Rattle.chaos_letter.specs.declared.letter.Letter.{Letter}
use Rattle.bsp_mail.specs.declared.seat.MailSeat.{MailSeat}
use Rattle.bsp_threads.specs.Due.{AreCut, AreDue}
use Rattle.chaos_bins.specs.Appended.{AreAppended}
use Rattle.chaos_bins.specs.Plan.{AppendPlan}

-- for each pair of nodes the letters of some order of the particles
abbrev pub AppendEach : AppendPlan → (ℕ → ℕ → List Letter) → Type 0
AppendEach plan due = (p q : ℕ) → p < plan.nodes → q < plan.nodes → p ≢ q → AreAppended plan p q (due p q)

-- each pair of nodes has sent and taken such letters, and all other pairs none
pub record AreAppendedWhole (plan : AppendPlan) (mails : List MailSeat) : Type 0 where
  pub due : ℕ → ℕ → List Letter
  pub appended : AppendEach plan due
  pub letters : AreDue plan.nodes due mails

-- each pair of nodes has sent the first of such letters, and taken the first that it was sent
pub record AreAppendedInPart (plan : AppendPlan) (mails : List MailSeat) : Type 0 where
  pub due : ℕ → ℕ → List Letter
  pub appended : AppendEach plan due
  pub letters : AreCut plan.nodes due mails
