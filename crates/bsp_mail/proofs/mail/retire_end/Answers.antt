use Rattle.std.proofs.Common.{ap, sym, ◌∙◌}
use Rattle.bsp_mail.specs.Seats.{place, IsInOf}
use Rattle.bsp_mail.specs.Mails.{ins_of}
use Rattle.bsp_mail.proofs.Settles.{number_is, seat_shape, end_known, list_known, are_retired, heir_at}
use Rattle.bsp_mail.proofs.mail.retire_end.Goals as goal

pub retire-requires-clause-shape : goal.retire-requires-clause-shape
retire-requires-clause-shape c =
    let known = seat_shape c.args.queues.now c.args.seats.now.items c.args.to c.index_mut.result.now c.requires.shape c.requires.pair.1.0
    c.index_mut.ensures.value in
    (known.0, known.2, c.requires.shape.lines)

pub retire-requires-clause-peer : goal.retire-requires-clause-peer
retire-requires-clause-peer c = (
  c.requires.pair.0,
  λ x. c.requires.pair.1.1 (sym (x ∙ number_is c.args.queues.now c.args.seats.now.items c.args.to c.index_mut.result.now c.requires.shape
      c.requires.pair.1.0 c.index_mut.ensures.value)),
)

pub retire-requires-clause-end : goal.retire-requires-clause-end
retire-requires-clause-end c =
    end_known c.args.queues.now c.args.seats.now.items c.args.to c.index_mut.result.now c.requires.shape c.requires.pair.1.0
    c.index_mut.ensures.value ins_of (λ me e. IsInOf c.args.queues.now me c.args.from e) c.args.from c.requires.opened.ins

pub returns-clause-seats : goal.returns-clause-seats
returns-clause-seats c =
    are_retired c.args.queues.now c.args.seats.now.items c.args.from c.args.to c.index_mut.result.now c.retire.new.self c.requires.shape
    c.requires.pair.1.0 c.index_mut.ensures.value c.retire.ensures.same.0 c.retire.ensures.same.1
    (c.retire.ensures.same.2, c.retire.ensures.others, c.retire.ensures.taken)

pub returns-clause-heir : goal.returns-clause-heir
returns-clause-heir c =
    let queues = c.args.queues.now in
    let xs = c.args.seats.now.items in
    let s = c.index_mut.result.now in
    heir_at queues _ _ _ _ c.retire.result
    (ap (place c.args.from) (number_is queues xs c.args.to s c.requires.shape c.requires.pair.1.0 c.index_mut.ensures.value))
    (list_known queues xs c.args.to s c.requires.shape c.requires.pair.1.0 c.index_mut.ensures.value ins_of (λ v. v.taken) c.args.from)
    c.retire.ensures.heir
