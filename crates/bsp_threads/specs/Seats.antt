-- What a mail seat, and the seat of a node, has done.
use Rattle.std.specs.Prelude.{◌≡◌, ◌≢◌, ℕ, ◌+◌, ◌^◌, ◌<◌, ◌≤◌, List, [], ◌∷◌, ◌++◌}
use Rattle.bsp_core.specs.declared.phased.Want.{Want}
use Rattle.bsp_core.specs.Views.{View, next_of}
use Rattle.bsp_core.specs.Follows.{Act, Sent, Took, Worked, Follows, put_to, taken_of}
use Rattle.bsp_mail.specs.declared.queues.Queues.{Queues}
use Rattle.bsp_mail.specs.declared.seat.MailSeat.{MailSeat}
use Rattle.bsp_mail.specs.Seats.{IsPeer, IsOpenOn, sent_to, taken_from, polls_of}
use Rattle.bsp_threads.specs.declared.seat.DriveSeat.{DriveSeat}

-- with others below the count alone
abbrev pub AreWithOthers : ℕ → ℕ → List Act → Type 0
AreWithOthers me count [] = Unit {0}
AreWithOthers me count (Sent to x ∷ ds) = (to < count) × (to ≢ me) × AreWithOthers me count ds
AreWithOthers me count (Took from x ∷ ds) = (from < count) × (from ≢ me) × AreWithOthers me count ds
AreWithOthers me count (Worked ∷ ds) = AreWithOthers me count ds

-- how many works
abbrev pub works_in : List Act → ℕ
works_in [] = 0
works_in (Sent to x ∷ ds) = works_in ds
works_in (Took from x ∷ ds) = works_in ds
works_in (Worked ∷ ds) = 1 + works_in ds

-- A mail seat has put and taken the letters of these actions. Of a line that gave none the count of empty polls hasn't fallen.
pub record HasMailed (count : ℕ) (s : MailSeat) (acts : List Act) (t : MailSeat) : Type 0 where
  pub me : t.me ≡ s.me
  pub others : AreWithOthers s.me count acts
  pub sent : (q : ℕ) → IsPeer s.me q → sent_to t q ≡ sent_to s q ++ put_to q acts
  pub taken : (q : ℕ) → IsPeer s.me q → taken_from t q ≡ taken_from s q ++ taken_of q acts
  pub polls : (q : ℕ) → IsPeer s.me q → taken_of q acts ≡ [] → polls_of s q ≤ polls_of t q

module _ {N S : Type 0} (view : N → View S) where
  -- the mail seat is of these queues and not settled, and its number is the node's
  pub record IsReady (queues : Queues) (s : DriveSeat N) : Type 0 where
    pub mail : IsOpenOn queues s.mail
    pub number : (view s.node).face.me ≡ s.mail.me

  -- and this exchange with node q, another one, is due
  pub record IsDueWith (queues : Queues) (s : DriveSeat N) (want : Want) (q : ℕ) : Type 0 where
    pub ready : IsReady queues s
    pub due : next_of (view s.node).face ≡ want
    pub other : (q < (view s.node).face.count) × (q ≢ s.mail.me)
    pub few : (view s.node).face.count ≤ 16

  -- From seat s to seat t the node did `acts`, and the mail seat put and took the letters of `mailed`.
  -- `ended` says how the two are tied.
  pub record HasDone (works : View S → View S → Type 0) (s : DriveSeat N) (ended : List Act → List Act → Type 0) (t : DriveSeat N) : Type
      0 where
    pub acts : List Act
    pub mailed : List Act
    pub follows : Follows works (view s.node) acts (view t.node)
    pub count : (view t.node).face.count ≡ (view s.node).face.count
    pub mail : HasMailed (view s.node).face.count s.mail mailed t.mail
    pub works_are : s.works + works_in acts < 2 ^ 64 → t.works ≡ s.works + works_in acts
    pub tied : ended acts mailed
