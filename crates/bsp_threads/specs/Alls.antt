-- All nodes and a Mail: how they go into the list of seats and out of it, and what was done in the end.
use Rattle.std.specs.Prelude.{◌≡◌, ◌≢◌, ℕ, ◌<◌, ◌≤◌, ◌⊎◌, List, [], ◌++◌, length, map, Some, slice_get}
use Rattle.chaos_letter.specs.declared.letter.Letter.{Letter}
use Rattle.bsp_core.specs.Views.{Face, View}
use Rattle.bsp_core.specs.Lockstep.{IsEnd, upto}
use Rattle.bsp_core.specs.Follows.{Act, Follows, put_to, taken_of}
use Rattle.bsp_core.specs.Turns.{Begins, AreDone}
use Rattle.bsp_mail.specs.declared.seat.MailSeat.{MailSeat}
use Rattle.bsp_mail.specs.Mails.{IsPair, sent_on, taken_on, SameLists, ArePrefixes}
use Rattle.bsp_threads.specs.declared.seat.Standing.{Standing}
use Rattle.bsp_threads.specs.declared.seat.Standing.TheVariants.{Going, Finished, Strayed}
use Rattle.bsp_threads.specs.declared.seat.DriveSeat.{DriveSeat}
use Rattle.bsp_threads.specs.Seats.{AreWithOthers}
use Rattle.bsp_threads.specs.Drives.{DriveEnds}

module _ {N : Type 0} where
  -- each seat has the node and the mail seat of its place, and is going
  pub record AreSeated (nodes : List N) (mails : List MailSeat) (seats : List (DriveSeat N)) : Type 0 where
    pub count : length seats ≡ length nodes
    pub each : (j : ℕ) (s : DriveSeat N) → slice_get seats j ≡ Some s → (slice_get nodes j ≡ Some s.node)
        × (slice_get mails j ≡ Some s.mail) × (s.standing ≡ Going)

  -- each node and each mail seat is back in its place
  pub record AreBack (seats : List (DriveSeat N)) (nodes : List N) (mails : List MailSeat) : Type 0 where
    pub count : length nodes ≡ length seats
    pub each : (j : ℕ) (s : DriveSeat N) → slice_get seats j ≡ Some s → (slice_get nodes j ≡ Some s.node)
        × (slice_get mails j ≡ Some s.mail)

-- from the n-th on nothing has changed
abbrev pub SameFrom : ℕ → List MailSeat → List MailSeat → Type 0
SameFrom n xs ys = (length ys ≡ length xs) × ((j : ℕ) → n ≤ j → slice_get ys j ≡ slice_get xs j)

-- each node, in its place, did only what was due
pub record AllFollow {N S : Type 0} (view : N → View S) (works : View S → View S → Type 0) (old new : List N) : Type 0 where
  pub count : length new ≡ length old
  pub each : (j : ℕ) (x y : N) → slice_get old j ≡ Some x → slice_get new j ≡ Some y → (acts : List Act)
      × Follows works (view x) acts (view y)

-- the nodes are numbered from 0, and know how many they are
pub record AreNumbered {N S : Type 0} (view : N → View S) (nodes : List N) : Type 0 where
  pub few : length nodes ≤ 16
  pub each : (j : ℕ) (x : N) → slice_get nodes j ≡ Some x → ((view x).face.me ≡ j) × ((view x).face.count ≡ length nodes)

-- Node p was led from x to y by `acts`, and its pairs' lists are those of `mailed`. How its seat stands ties the two.
pub record WasLed {N S : Type 0} (view : N → View S) (works : View S → View S → Type 0) (n : ℕ) (mails : List MailSeat) (p : ℕ) (x y : N)
    (standing : Standing) (acts mailed : List Act) : Type 0 where
  pub follows : Follows works (view x) acts (view y)
  pub others : AreWithOthers p n mailed
  pub sent : (q : ℕ) → IsPair p q → sent_on mails p q ≡ put_to q mailed
  pub taken : (q : ℕ) → IsPair p q → taken_on mails q p ≡ taken_of q mailed
  pub tied : DriveEnds standing (view y) acts mailed

-- All nodes were led from the old to the new, the other seats have empty lists, and the Mail is settled. They stand together so.
pub record HaveRun {N S : Type 0} (view : N → View S) (works : View S → View S → Type 0) (old new : List N) (mails : List MailSeat)
    (together : Standing) : Type 0 where
  pub acts : ℕ → List Act
  pub mailed : ℕ → List Act
  pub standings : ℕ → Standing
  pub count : length new ≡ length old
  pub led : (p : ℕ) (x y : N) → slice_get old p ≡ Some x → slice_get new p ≡ Some y → WasLed view works (length old) mails p x y
      (standings p) (acts p) (mailed p)
  pub not_sent : (p q : ℕ) → IsPair p q → length old ≤ p → sent_on mails p q ≡ []
  pub not_taken : (p q : ℕ) → IsPair p q → length old ≤ q → taken_on mails p q ≡ []
  pub prefixes : ArePrefixes mails
  pub finished : together ≡ Finished → (p : ℕ) → p < length old → standings p ≡ Finished
  pub strayed : together ≡ Strayed → (p : ℕ) × (p < length old) × (standings p ≡ Strayed)

-- once the Mail is settled, they have run
abbrev pub WillHaveRun : {N S : Type 0} → (N → View S) → (View S → View S → Type 0) → List N → List N → List MailSeat → Standing → Type 0
WillHaveRun view works old new mails together = (settled : List MailSeat) → SameLists mails settled → ArePrefixes settled
    → HaveRun view works old new settled together

-- the pairs of seats that aren't both below n have no letter
abbrev pub AreEmptyFrom : ℕ → List MailSeat → Type 0
AreEmptyFrom n mails = (p q : ℕ) → IsPair p q → (n ≤ p) ⊎ (n ≤ q) → (sent_on mails p q ≡ []) × (taken_on mails p q ≡ [])

-- what was sent for each pair is a prefix of what the plan has for it up to its end
abbrev pub AreOfPlan : (ℕ → ℕ → Face) → ℕ → List MailSeat → Type 0
AreOfPlan rows n mails = (end p q : ℕ) → IsEnd rows end → p < n → q < n → p ≢ q → (rest : List Letter)
    × (upto rows p q end ≡ sent_on mails p q ++ rest)

-- Nodes and Mail are at the plan's end: each node is that of the plan's last row, and sent and taken lists are the plan's.
pub record AreAtEnd {S : Type 0} (rows : ℕ → ℕ → Face) (holds : ℕ → ℕ → S → Type 0) (n : ℕ) (views : List (View S))
    (mails : List MailSeat) : Type 0 where
  pub phase : ℕ
  pub end : IsEnd rows phase
  pub count : length views ≡ n
  pub nodes : (p : ℕ) (v : View S) → slice_get views p ≡ Some v → (v.face ≡ rows phase p) × holds phase p v.state
  pub sent : (p q : ℕ) → p < n → q < n → p ≢ q → sent_on mails p q ≡ upto rows p q phase
  pub taken : (p q : ℕ) → p < n → q < n → p ≢ q → taken_on mails p q ≡ upto rows p q phase

-- What the prefix law makes of a run: no letter strayed, what was sent is of the plan, and where all are finished, all is at its end.
pub record IsLawfulRun {N S : Type 0} (view : N → View S) (rows : ℕ → ℕ → Face) (holds : ℕ → ℕ → S → Type 0) (n : ℕ) (new : List N)
    (mails : List MailSeat) (together : Standing) : Type 0 where
  pub straight : together ≢ Strayed
  pub of_plan : AreOfPlan rows n mails
  pub done : together ≡ Finished → AreDone view new
  pub at_end : together ≡ Finished → AreAtEnd rows holds n (map view new) mails

module _ {N S P : Type 0} (view : N → View S) (is : P → Type 0) (count : P → ℕ) (rows : P → ℕ → ℕ → Face) (holds : P → ℕ → ℕ → S
    → Type 0) where
  -- whatever plan the nodes began, what was sent is a prefix of the plan's
  abbrev pub AreWithinPlan : List N → List MailSeat → Type 0
  AreWithinPlan old mails = (plan : P) → is plan → Begins (rows plan) (holds plan) (count plan) (map view old)
      → AreOfPlan (rows plan) (count plan) mails

  -- whatever plan the nodes began, they are at its end
  abbrev pub AreAtPlansEnd : List N → List N → List MailSeat → Type 0
  AreAtPlansEnd old new mails =
      (plan : P) → is plan → Begins (rows plan) (holds plan) (count plan) (map view old) → AreAtEnd (rows plan) (holds plan) (count plan)
      (map view new) mails
