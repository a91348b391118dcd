-- What a round does with a seat, and how all seats stand.
use Rattle.std.specs.Prelude.{◌≡◌, ◌≢◌, ℕ, List, Some, slice_get}
use Rattle.bsp_core.specs.Views.{View}
use Rattle.bsp_mail.specs.declared.queues.Queues.{Queues}
use Rattle.bsp_threads.specs.declared.seat.Standing.TheVariants.{Going, Finished, OutOfMemory, Strayed}
use Rattle.bsp_threads.specs.declared.seat.DriveSeat.{DriveSeat}
use Rattle.bsp_threads.specs.Seats.{HasDone, IsReady}
use Rattle.bsp_threads.specs.Drives.{DriveEnds}

module _ {N S : Type 0} (view : N → View S) where
  -- how a seat got where it stands, from another on
  abbrev pub HasCome : (View S → View S → Type 0) → DriveSeat N → DriveSeat N → Type 0
  HasCome works start s = HasDone view works start (DriveEnds s.standing (view s.node)) s

  -- The seat is ready again; it stays as it is unless it was going; and from wherever it had come, it still has.
  pub record HasGone (works : View S → View S → Type 0) (queues : Queues) (s t : DriveSeat N) : Type 0 where
    pub ready : IsReady view queues t
    pub stays : s.standing ≢ Going → t ≡ s
    pub come : (start : DriveSeat N) → HasCome works start s → HasCome works start t

module _ {N : Type 0} where
  abbrev pub HasFinished : DriveSeat N → Type 0
  HasFinished s = s.standing ≡ Finished

  abbrev pub HasNotStrayed : DriveSeat N → Type 0
  HasNotStrayed s = s.standing ≢ Strayed

  abbrev pub HasMemory : DriveSeat N → Type 0
  HasMemory s = s.standing ≢ OutOfMemory

  abbrev pub SomeStrayed : List (DriveSeat N) → Type 0
  SomeStrayed seats = (j : ℕ) × (s : DriveSeat N) × (slice_get seats j ≡ Some s) × (s.standing ≡ Strayed)

  abbrev pub SomeGoing : List (DriveSeat N) → Type 0
  SomeGoing seats = (j : ℕ) × (s : DriveSeat N) × (slice_get seats j ≡ Some s) × (s.standing ≡ Going)
