use Rattle.std.proofs.Common.{◌≡◌, rules}
use Rattle.bsp_core.specs.Views.{WorksFor}
use Rattle.bsp_threads.specs.declared.seat.Standing.TheVariants.{Going}
use Rattle.bsp_threads.proofs.Rounding.{gone_on}
use Rattle.bsp_threads.proofs.round.go_on.Goals as goal

pub returns-in-Going : goal.returns-in-Going
returns-in-Going g c =
    let going : c.args.seat.now.standing ≡ Going = search rules in
    let e = c.drive-answer.ensures in
    record {
      gone = gone_on g.N.Phased.view (WorksFor g.N.Phased.IsPlan g.N.Phased.count g.N.Phased.rows g.N.Phased.holds) c.args.queues.now
          c.args.seat.now c.drive-answer.new.seat c.drive-answer.result going e.ready e.standing e.done;
    }
