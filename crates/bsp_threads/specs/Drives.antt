-- What the answers of a drive say.
use Rattle.std.specs.Prelude.{◌≡◌, ℕ, ◌+◌, ◌≤◌, List, [], ◌∷◌, ◌++◌, ◌⊎◌, Result, Ok, Err}
use Rattle.chaos_letter.specs.declared.letter.Letter.{Letter}
use Rattle.chaos_letter.specs.declared.wanted.Wanted.{Wanted}
use Rattle.chaos_letter.specs.Fits.{Fits}
use Rattle.bsp_core.specs.declared.phased.Want.TheVariants.{Take, Done}
use Rattle.bsp_core.specs.declared.phased.TakeFault.{TakeFault}
use Rattle.bsp_core.specs.declared.phased.TakeFault.TheVariants.{Stray as NotTaken}
use Rattle.bsp_core.specs.Views.{View, next_of}
use Rattle.bsp_core.specs.Follows.{Act, Sent, Took}
use Rattle.bsp_mail.specs.declared.queues.Queues.{Queues}
use Rattle.bsp_mail.specs.Seats.{IsPeer, taken_from, polls_of}
use Rattle.bsp_threads.specs.declared.drove.Drove.{Drove}
use Rattle.bsp_threads.specs.declared.drove.Drove.TheVariants.{Finished, Waiting}
use Rattle.bsp_threads.specs.declared.drove.DriveFault.{DriveFault}
use Rattle.bsp_threads.specs.declared.drove.DriveFault.TheVariants.{Stray, Memory}
use Rattle.bsp_threads.specs.declared.seat.Standing.{Standing}
use Rattle.bsp_threads.specs.declared.seat.Standing.TheVariants.{Going, Finished as IsFinished, Strayed, OutOfMemory}
use Rattle.bsp_threads.specs.declared.seat.DriveSeat.{DriveSeat}
use Rattle.bsp_threads.specs.declared.step.Step.{Step}
use Rattle.bsp_threads.specs.declared.step.Step.TheVariants.{Moved, Empty, AtEnd}
use Rattle.bsp_threads.specs.Seats.{HasDone, IsReady}

-- the fault of a letter that a node didn't take
abbrev pub fault_of : TakeFault → DriveFault
fault_of (NotTaken wanted got) = Stray wanted got

-- how a seat stands after an answer
abbrev pub standing_after : Result Drove DriveFault → Standing
standing_after (Ok Finished) = IsFinished
standing_after (Ok Waiting) = Going
standing_after (Err (Stray wanted got)) = Strayed
standing_after (Err Memory) = OutOfMemory

-- the mail seat took one letter more than the node, which wants another
pub record HasStrayed {S : Type 0} (w : View S) (wanted : Wanted) (got : Letter) (acts mailed : List Act) : Type 0 where
  pub from : ℕ
  pub rest : List (ℕ × Wanted)
  pub next : next_of w.face ≡ Take from
  pub due : w.face.due ≡ (from, wanted) ∷ rest
  pub misfit : ¬ Fits wanted got
  pub mailed_is : mailed ≡ acts ++ Took from got ∷ []

-- the mail seat put all that the node posted, or all but the last
abbrev pub MayLackOne : List Act → List Act → Type 0
MayLackOne acts mailed = (mailed ≡ acts) ⊎ ((to : ℕ) × (x : Letter) × (acts ≡ mailed ++ Sent to x ∷ []))

-- what node and mail seat did, by how a seat stands
abbrev pub DriveEnds : {S : Type 0} → Standing → View S → List Act → List Act → Type 0
DriveEnds Going w acts mailed = mailed ≡ acts
DriveEnds IsFinished w acts mailed = (mailed ≡ acts) × (next_of w.face ≡ Done)
DriveEnds {S} Strayed w acts mailed = (wanted : Wanted) × (got : Letter) × HasStrayed w wanted got acts mailed
DriveEnds OutOfMemory w acts mailed = MayLackOne acts mailed

-- and by an answer
abbrev pub Answers : {S : Type 0} → Result Drove DriveFault → View S → List Act → List Act → Type 0
Answers (Ok Finished) w acts mailed = (mailed ≡ acts) × (next_of w.face ≡ Done)
Answers (Ok Waiting) w acts mailed = mailed ≡ acts
Answers (Err (Stray wanted got)) w acts mailed = HasStrayed w wanted got acts mailed
Answers (Err Memory) w acts mailed = MayLackOne acts mailed

abbrev pub OnWaiting : Result Drove DriveFault → Type 0 → Type 0
OnWaiting (Ok Finished) P = Unit {0}
OnWaiting (Ok Waiting) P = P
OnWaiting (Err fault) P = Unit {0}

module _ {N S : Type 0} (view : N → View S) where
  -- The node waits for a letter, and the receiver's count of empty polls is n or more. If no letter of that line was taken
  -- since s, it has grown by n or more.
  pub record HasWaited (s t : DriveSeat N) (n : ℕ) : Type 0 where
    pub from : ℕ
    pub next : next_of (view t.node).face ≡ Take from
    pub least : n ≤ polls_of t.mail from
    pub grown : taken_from t.mail from ≡ taken_from s.mail from → polls_of s.mail from + n ≤ polls_of t.mail from

  -- the node and the mail seat did the same
  abbrev pub HasMoved : (View S → View S → Type 0) → DriveSeat N → DriveSeat N → Type 0
  HasMoved works s t = HasDone view works s (λ acts mailed. mailed ≡ acts) t

  -- one poll found the line empty
  pub record HasPolled (works : View S → View S → Type 0) (s t : DriveSeat N) : Type 0 where
    pub moved : HasMoved works s t
    pub same : view t.node ≡ view s.node
    pub from : ℕ
    pub peer : IsPeer s.mail.me from
    pub next : next_of (view s.node).face ≡ Take from
    pub taken : taken_from t.mail from ≡ taken_from s.mail from
    pub poll : polls_of t.mail from ≡ polls_of s.mail from + 1

  -- what one step of a seat did
  abbrev pub HasStepped : (View S → View S → Type 0) → DriveSeat N → Result Step DriveFault → DriveSeat N → Type 0
  HasStepped works s (Ok Moved) t = HasMoved works s t
  HasStepped works s (Ok Empty) t = HasPolled works s t
  HasStepped works s (Ok AtEnd) t = (t ≡ s) × (next_of (view s.node).face ≡ Done)
  HasStepped works s (Err fault) t = HasDone view works s (Answers (Err fault) (view t.node)) t

  -- within a drive, after so many empty polls in a row
  pub record IsOnTheWay (works : View S → View S → Type 0) (queues : Queues) (s : DriveSeat N) (polls : ℕ) (t : DriveSeat N) : Type 0 where
    pub ready : IsReady view queues t
    pub moved : HasMoved works s t
    pub polled : (polls ≡ 0) ⊎ HasWaited s t polls
