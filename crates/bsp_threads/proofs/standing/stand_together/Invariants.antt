use Rattle.std.proofs.Common.{◌≡◌, ◌≢◌, ◌<◌, ℕ, get_or}
use Rattle.bsp_threads.specs.declared.seat.Standing.TheVariants.{Finished, Going, OutOfMemory, Strayed}
use Rattle.bsp_threads.specs.declared.seat.DriveSeat.{DriveSeat}
use Rattle.bsp_threads.specs.Rounds.{HasFinished, HasMemory, HasNotStrayed, SomeGoing}
use Rattle.bsp_threads.proofs.standing.stand_together.Given as goal

abbrev pub invariant-loop-seat : goal.invariant-loop-seat
invariant-loop-seat g l = record {
  straight : l.all ≢ Strayed;
  finished : l.all ≡ Finished → (k : ℕ) (d : DriveSeat g.row.N.Denot) → k < l.seat-index → HasFinished (get_or l.seats k d);
  others : (k : ℕ) (d : DriveSeat g.row.N.Denot) → k < l.seat-index → HasNotStrayed (get_or l.seats k d);
  memory : l.all ≢ OutOfMemory → (k : ℕ) (d : DriveSeat g.row.N.Denot) → k < l.seat-index → HasMemory (get_or l.seats k d);
  going : l.all ≡ Going → SomeGoing l.seats;
}
