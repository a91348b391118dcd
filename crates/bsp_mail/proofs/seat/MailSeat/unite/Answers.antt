use Rattle.bsp_mail.specs.declared.end.End.{End}
use Rattle.bsp_mail.proofs.Seating.{kept_at}
use Rattle.bsp_mail.proofs.seat.MailSeat.unite.Goals as goal

pub returns-clause-sent : goal.returns-clause-sent
returns-clause-sent g c q p =
    let d = c.index_mut-end.result.now in
    let e : End = record { peer = d.peer; pass = c.unite.new.from } in
    kept_at c.args.self.now.me c.args.self.now.outs.items c.args.to c.below_of.result e d c.below_of.ensures c.requires.shape.0
    c.requires.peer c.requires.shape.1 c.index_mut-end.ensures.value (λ v. v.sent) c.unite.ensures.from.1 q p
