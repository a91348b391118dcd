use Rattle.std.proofs.Common.{◌<◌}
use Rattle.bsp_core.specs.Views.{WorksFor}
use Rattle.bsp_threads.specs.Drives.{IsOnTheWay}
use Rattle.bsp_threads.proofs.driving.move_on.Given as goal

abbrev pub invariant-loop : goal.invariant-loop
invariant-loop g l =
    (l.polls < 65536)
    × IsOnTheWay g.N.Phased.view (WorksFor g.N.Phased.IsPlan g.N.Phased.count g.N.Phased.rows g.N.Phased.holds) l.queues l.initial.seat
    l.polls l.seat
