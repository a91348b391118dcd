use Rattle.std.proofs.Common.{◌∙◌}
use Rattle.std.proofs.Math.ListN.{length-set}
use Rattle.bsp_mail.specs.declared.end.End.{End}
use Rattle.bsp_mail.specs.Seats.{view_of}
use Rattle.bsp_mail.proofs.Seating.{take_role, take_at, others_at, in_ends_kept}
use Rattle.bsp_mail.proofs.seat.MailSeat.take_from.Goals as goal

pub returns-clause-open : goal.returns-clause-open
returns-clause-open g c =
    let op = c.requires.open in
    let d = c.index_mut-end.result.now in
    let e : End = record { peer = d.peer; pass = c.take.new.pass } in
    let roles = take_role c.take.result (view_of d) (view_of e) c.take.ensures.take in
    record {
      me = op.me;
      outs = op.outs;
      ins = length-set _ _ _ ∙ op.ins;
      lines = op.lines;
      out_ends = op.out_ends;
      in_ends = in_ends_kept c.args.queues.now c.args.self.now c.args.from c.below_of.result c.place_of.result e d
          c.index-queue.result.now op c.requires.peer c.below_of.ensures c.take.ensures.pass c.place_of.ensures
          c.index_mut-end.ensures.value c.index-queue.ensures roles;
    }

pub returns-clause-take : goal.returns-clause-take
returns-clause-take g c =
    take_at c.args.self.now.me c.args.self.now.ins.items c.args.from c.below_of.result
    (record { peer = c.index_mut-end.result.now.peer; pass = c.take.new.pass }) c.index_mut-end.result.now c.below_of.ensures
    c.requires.open.me c.requires.peer c.requires.open.ins c.index_mut-end.ensures.value c.take.result c.take.ensures.take

pub returns-clause-others : goal.returns-clause-others
returns-clause-others g c q p h =
    others_at c.args.self.now.me c.args.self.now.ins.items c.args.from c.below_of.result
    (record { peer = c.index_mut-end.result.now.peer; pass = c.take.new.pass }) c.index_mut-end.result.now c.below_of.ensures
    c.requires.open.me c.requires.peer c.requires.open.ins c.index_mut-end.ensures.value (λ v. v.polls) q p h
