use Rattle.std.proofs.Common.{sym, ap, ◌∙◌, subst}
use Rattle.bsp_mail.specs.declared.hand.Hand.{Hand}
use Rattle.bsp_mail.specs.declared.end.End.{End}
use Rattle.bsp_mail.specs.declared.queues.Queue.{Queue}
use Rattle.crossbeam_queue.specs.SegTies.{IsSegPassOf}
use Rattle.bsp_mail.proofs.Seating.{kept_at, hand_there, line_there, peer_back, same_some}
use Rattle.bsp_mail.proofs.seat.MailSeat.retire.Goals as goal

pub returns-clause-taken : goal.returns-clause-taken
returns-clause-taken c q p =
    let d = c.index_mut-end.result.now in
    let e : End = record { peer = d.peer; pass = c.retire.new.to } in
    kept_at c.args.self.now.me c.args.self.now.ins.items c.args.from c.below_of.result e d c.below_of.ensures c.requires.shape.0
    c.requires.peer c.requires.shape.1 c.index_mut-end.ensures.value (λ v. v.taken) (ap (λ (v : Hand). v.taken) c.retire.ensures.to.1) q p

pub returns-clause-heir : goal.returns-clause-heir
returns-clause-heir c =
    let s = c.args.self.now in
    let peer = c.requires.peer in
    let shape = c.requires.shape in
    let d = c.index_mut-end.result.now in
    let line = line_there c.args.queues.now c.args.from s.me c.place_of.result c.index-queue.result.now peer.0
    (peer_back s.me c.args.from shape.0 peer) shape.2 c.place_of.ensures c.index-queue.ensures in
    let heir = c.retire.ensures.heir in (
      (λ x at. subst (λ (y : Queue). IsSegPassOf y.line c.retire.result) (same_some _ _ _ line at) heir.0),
      ap (λ (v : Hand). v.takes) heir.1,
      ap (λ (v : Hand). v.taken) heir.1 ∙ ap (λ (v : Hand). v.taken) (sym (hand_there s.me s.ins.items c.args.from c.below_of.result d d
          c.below_of.ensures shape.0 peer shape.1 c.index_mut-end.ensures.value)),
    )
