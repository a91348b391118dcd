use Rattle.std.proofs.Common.{◌∙◌}
use Rattle.std.proofs.Math.ListN.{length-set}
use Rattle.bsp_mail.specs.declared.end.End.{End}
use Rattle.bsp_mail.proofs.Seating.{put_role, put_at, out_ends_kept}
use Rattle.bsp_mail.proofs.seat.MailSeat.put.Goals as goal

pub returns-clause-open : goal.returns-clause-open
returns-clause-open g c =
    let s = c.args.self.now in
    let op = c.requires.open in
    let e : End = record { peer = c.index_mut-end.result.now.peer; pass = c.put.new.pass } in
    record {
      me = op.me;
      outs = length-set _ _ _ ∙ op.outs;
      ins = op.ins;
      lines = op.lines;
      out_ends = out_ends_kept c.args.queues.now s c.args.to c.below_of.result c.place_of.result e c.index_mut-end.result.now
          c.index-queue.result.now op c.requires.peer c.below_of.ensures c.put.ensures.pass c.place_of.ensures
          c.index_mut-end.ensures.value c.index-queue.ensures (put_role _ _ _ _ c.put.ensures.put);
      in_ends = op.in_ends;
    }

pub returns-clause-put : goal.returns-clause-put
returns-clause-put g c =
    let s = c.args.self.now in
    let d = c.index_mut-end.result.now in
    let e : End = record { peer = d.peer; pass = c.put.new.pass } in
    put_at s.me s.outs.items c.args.to c.below_of.result e d c.below_of.ensures c.requires.open.me c.requires.peer c.requires.open.outs
    c.index_mut-end.ensures.value c.args.letter c.put.result c.put.ensures.put
