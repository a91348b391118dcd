use Rattle.std.proofs.Common.{Result, sym, refl, subst}
use Rattle.bsp_core.specs.Views.{WorksFor}
use Rattle.bsp_threads.specs.declared.drove.DriveFault.{DriveFault}
use Rattle.bsp_threads.specs.declared.step.Step.{Step}
use Rattle.bsp_threads.specs.Drives.{HasStepped}
use Rattle.bsp_threads.proofs.Acting.{seat_with, has_sent, has_not_sent}
use Rattle.bsp_threads.proofs.seat.DriveSeat.send.Goals.{in-Ok, in-Err}
use Rattle.bsp_threads.proofs.seat.DriveSeat.send.Goals as goal

pub returns-clause-stepped : goal.returns-clause-stepped
returns-clause-stepped g c =
    let view = g.N.Phased.view in
    let works = WorksFor g.N.Phased.IsPlan g.N.Phased.count g.N.Phased.rows g.N.Phased.holds in
    let s = c.args.self.now in
    let t = seat_with s c.post-letter.new.self c.put.new.self in
    let e = c.requires in
    elim c.match-put.branch [
      | in-Ok w ↦ subst (λ (r : Result Step DriveFault). HasStepped view works s r t) (sym w.result-is)
          (has_sent view works s t c.args.to c.post-letter.result e.due e.other c.post-letter.ensures refl c.put.ensures.same
          w.in-Ok.ensures.put)
      | in-Err w ↦ subst (λ (r : Result Step DriveFault). HasStepped view works s r t) (sym w.result-is)
          (has_not_sent view works s t c.args.to c.post-letter.result e.due c.post-letter.ensures refl c.put.ensures.same
          w.in-Err.ensures.put.1)
    ]
