use Rattle.std.proofs.Common.{refl, arith}
use Rattle.bsp_core.specs.Views.{WorksFor}
use Rattle.bsp_mail.specs.Seats.{IsPeer}
use Rattle.bsp_threads.proofs.Acting.{seat_with, has_taken, has_polled, has_strayed_by}
use Rattle.bsp_threads.proofs.seat.DriveSeat.receive.Goals as goal

pub returns-in-None-clause-stepped : goal.returns-in-None-clause-stepped
returns-in-None-clause-stepped g c =
    let s = c.args.self.now in
    let e = c.requires in
    let t = seat_with s s.node c.take_from.new.self in
    let peer : IsPeer s.mail.me c.args.from = ((let a = e.other.0 in let b = e.few in omega arith), e.other.1) in
    has_polled g.N.Phased.view (WorksFor g.N.Phased.IsPlan g.N.Phased.count g.N.Phased.rows g.N.Phased.holds) s t
    c.args.from e.due peer refl refl c.take_from.ensures.same c.take_from.ensures.others c.in-None.ensures.take.0 c.in-None.ensures.take.1

pub returns-in-Ok-clause-stepped : goal.returns-in-Ok-clause-stepped
returns-in-Ok-clause-stepped g c =
    let s = c.args.self.now in
    let e = c.requires in
    let t = seat_with s c.take.new.self c.take_from.new.self in
    has_taken g.N.Phased.view (WorksFor g.N.Phased.IsPlan g.N.Phased.count g.N.Phased.rows g.N.Phased.holds) s t
    c.args.from c.in-Some.letter e.due e.other c.in-Ok.ensures.ok refl c.take_from.ensures.same c.take_from.ensures.others
    c.in-Some.ensures.take.1

pub returns-in-Err-clause-stepped : goal.returns-in-Err-clause-stepped
returns-in-Err-clause-stepped g c =
    let s = c.args.self.now in
    let e = c.requires in
    let t = seat_with s c.take.new.self c.take_from.new.self in
    rw c.of.ensures (has_strayed_by g.N.Phased.view (WorksFor g.N.Phased.IsPlan g.N.Phased.count g.N.Phased.rows g.N.Phased.holds) s t
    c.in-Err.fault c.args.from c.in-Some.letter e.due e.other c.in-Err.ensures.stray refl c.take_from.ensures.same
    c.take_from.ensures.others c.in-Some.ensures.take.1)
