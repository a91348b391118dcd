-- The letters of a Mail beside those that are due, for nodes of any kind.
use Rattle.std.specs.Prelude.{◌≡◌, ◌≢◌, ℕ, ◌<◌, List}
use Rattle.std.proofs.Common.{sym, ◌∙◌}
use Rattle.chaos_letter.specs.declared.letter.Letter.{Letter}
use Rattle.bsp_core.specs.Lockstep.{IsEnd, upto}
use Rattle.bsp_core.specs.Views.{Face, View}
use Rattle.bsp_mail.specs.declared.seat.MailSeat.{MailSeat}
use Rattle.bsp_mail.specs.Mails.{ArePrefixes, sent_on, taken_on}
use Rattle.bsp_mail.specs.Rule.{IsPrefix}
use Rattle.bsp_threads.specs.Alls.{AreAtEnd, AreEmptyFrom, AreOfPlan}

-- each pair of nodes below n has sent and taken the letters that are due, in their order
abbrev pub ArePairsDue : ℕ → (ℕ → ℕ → List Letter) → List MailSeat → Type 0
ArePairsDue n due mails = (p q : ℕ) → p < n → q < n → p ≢ q → (sent_on mails p q ≡ due p q) × (taken_on mails p q ≡ due p q)

-- each pair of nodes below n has sent the first of the letters that are due, and no other
abbrev pub ArePairsCut : ℕ → (ℕ → ℕ → List Letter) → List MailSeat → Type 0
ArePairsCut n due mails = (p q : ℕ) → p < n → q < n → p ≢ q → IsPrefix (sent_on mails p q) (due p q)

-- all letters are those that are due among n nodes
pub record AreDue (n : ℕ) (due : ℕ → ℕ → List Letter) (mails : List MailSeat) : Type 0 where
  pub pairs : ArePairsDue n due mails
  pub others : AreEmptyFrom n mails

-- all letters are of those that are due among n nodes, and each pair has taken the first that it was sent
pub record AreCut (n : ℕ) (due : ℕ → ℕ → List Letter) (mails : List MailSeat) : Type 0 where
  pub sent : ArePairsCut n due mails
  pub taken : ArePrefixes mails
  pub others : AreEmptyFrom n mails

-- up to its end a plan has these letters
abbrev pub HasLetters : (ℕ → ℕ → Face) → ℕ → (ℕ → ℕ → List Letter) → Type 0
HasLetters rows n due = (end p q : ℕ) → q < n → IsEnd rows end → upto rows p q end ≡ due p q

pub due_at_end : {S : Type 0} (rows : ℕ → ℕ → Face) (holds : ℕ → ℕ → S → Type 0) (n : ℕ) (due : ℕ → ℕ → List Letter)
    (views : List (View S)) (mails : List MailSeat) → HasLetters rows n due → AreAtEnd rows holds n views mails → ArePairsDue n due mails
due_at_end rows holds n due views mails has at p q lp lq apart =
    let is = has at.phase p q lq at.end in
    (at.sent p q lp lq apart ∙ is, at.taken p q lp lq apart ∙ is)

pub due_within : (rows : ℕ → ℕ → Face) (n end : ℕ) (due : ℕ → ℕ → List Letter) (mails : List MailSeat) → HasLetters rows n due
    → IsEnd rows end → AreOfPlan rows n mails → ArePairsCut n due mails
due_within rows n end due mails has is of_plan p q lp lq apart =
    let sent = of_plan end p q is lp lq apart in
    (sent.0, sym (has end p q lq is) ∙ sent.1)
