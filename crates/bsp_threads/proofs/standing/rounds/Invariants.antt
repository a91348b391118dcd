use Rattle.std.specs.List.{All, AllZip}
use Rattle.bsp_core.specs.Views.{WorksFor}
use Rattle.bsp_threads.specs.Seats.{IsReady}
use Rattle.bsp_threads.specs.Rounds.{HasGone}
use Rattle.bsp_threads.proofs.standing.rounds.Given as goal

abbrev pub invariant-loop : goal.invariant-loop
invariant-loop g l =
    All (IsReady g.N.Phased.view l.queues) l.seats
    × AllZip (HasGone g.N.Phased.view (WorksFor g.N.Phased.IsPlan g.N.Phased.count g.N.Phased.rows g.N.Phased.holds) l.queues)
    l.initial.seats l.seats
