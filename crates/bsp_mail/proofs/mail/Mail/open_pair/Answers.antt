use Rattle.std.proofs.Common.{◌∙◌, sym, List, set}
use Rattle.std.proofs.lemmas.Option.{slice_get_read}
use Rattle.std.proofs.Math.ListN.{length-set}
use Rattle.bsp_mail.specs.declared.end.End.{End}
use Rattle.bsp_mail.specs.declared.queues.Queue.{Queue}
use Rattle.bsp_mail.specs.declared.seat.MailSeat.{MailSeat}
use Rattle.bsp_mail.proofs.Opens.{pair_opened}
use Rattle.bsp_mail.proofs.mail.Mail.open_pair.Goals as goal

pub returns : goal.returns
returns c =
    let m = c.args.self.now in
    let xs = m.seats.items in
    let from = c.args.from in
    let to = c.args.to in
    let pair = c.requires.pair in
    let o = c.requires.opening in
    let line = c.in_ok-line.ensures in
    let queue : Queue = record { line = c.in_ok-line.line } in
    let a : End = record { peer = to; pass = c.in_ok-line.sender } in
    let b : End = record { peer = from; pass = c.in_ok-line.receiver } in
    let s = c.index_mut.result.now in
    let n = c.add_out.new.self in
    let t = c.index_mut-2.result.now in
    let u = c.add_in.new.self in
    let ys : List MailSeat = set xs from n in
    pair_opened m.queues c.push.new.self queue xs from to s n t u a b pair o c.in_ok-push.ensures
    (slice_get_read xs 16 from s (sym o.count) pair.0 c.index_mut.ensures.value) c.in_ok-add_out.ensures
    (slice_get_read ys 16 to t (sym (length-set _ _ _ ∙ o.count)) pair.1.0 c.index_mut-2.ensures.value) c.in_ok-add_in.ensures
    line.0 line.2 line.1 line.3
