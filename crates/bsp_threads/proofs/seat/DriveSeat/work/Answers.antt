use Rattle.std.proofs.Common.{◌≡◌, ◌+◌, ◌%◌, refl, arith}
use Rattle.bsp_core.specs.Views.{WorksFor}
use Rattle.bsp_threads.specs.declared.seat.DriveSeat.{DriveSeat}
use Rattle.bsp_threads.proofs.Acting.{seat_with, has_worked, has_not_worked}
use Rattle.bsp_threads.proofs.seat.DriveSeat.work.Goals as goal

pub returns-in-Ok-clause-stepped : goal.returns-in-Ok-clause-stepped
returns-in-Ok-clause-stepped g c =
    let s = c.args.self.now in
    let t : DriveSeat g.row.N.Denot = record {
      node = c.work.new.self;
      mail = s.mail;
      works = (s.works + 1) % 18446744073709551616;
      standing = s.standing;
    } in
    has_worked g.N.Phased.view (WorksFor g.N.Phased.IsPlan g.N.Phased.count g.N.Phased.rows g.N.Phased.holds) s t
    c.requires.due c.in-Ok.ensures.ok c.work.ensures.count refl (λ small. let r : (s.works + 1) % 18446744073709551616 ≡ s.works
    + 1 = omega arith in r)

pub returns-in-Err-clause-stepped : goal.returns-in-Err-clause-stepped
returns-in-Err-clause-stepped g c =
    let s = c.args.self.now in
    let t = seat_with s c.work.new.self s.mail in
    has_not_worked g.N.Phased.view (WorksFor g.N.Phased.IsPlan g.N.Phased.count g.N.Phased.rows g.N.Phased.holds) s t c.in-Err.ensures.err
    refl refl
