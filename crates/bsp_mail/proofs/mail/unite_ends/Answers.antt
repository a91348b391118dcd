use Rattle.std.proofs.Common.{List, ap, sym, ◌∙◌, ℕ, refl, subst}
use Rattle.chaos_letter.specs.declared.letter.Letter.{Letter}
use Rattle.bsp_mail.specs.Rule.{IsPrefix}
use Rattle.bsp_mail.specs.Seats.{place, IsOutOf}
use Rattle.bsp_mail.specs.Mails.{outs_of}
use Rattle.bsp_mail.proofs.Settles.{number_is, seat_shape, end_known, list_known, are_united, heir_at}
use Rattle.bsp_mail.proofs.mail.unite_ends.Goals as goal

pub unite-requires-clause-shape : goal.unite-requires-clause-shape
unite-requires-clause-shape g c =
    let known = seat_shape c.args.queues.now c.args.seats.now.items c.args.from c.index_mut.result.now c.requires.shape c.requires.pair.0
    c.index_mut.ensures.value in
    (known.0, known.1, c.requires.shape.lines)

pub unite-requires-clause-peer : goal.unite-requires-clause-peer
unite-requires-clause-peer g c = (
  c.requires.pair.1.0,
  λ x. c.requires.pair.1.1 (x ∙ number_is c.args.queues.now c.args.seats.now.items c.args.from c.index_mut.result.now c.requires.shape
      c.requires.pair.0 c.index_mut.ensures.value),
)

pub unite-requires-clause-end : goal.unite-requires-clause-end
unite-requires-clause-end g c =
    end_known c.args.queues.now c.args.seats.now.items c.args.from c.index_mut.result.now c.requires.shape c.requires.pair.0
    c.index_mut.ensures.value outs_of (λ me e. IsOutOf c.args.queues.now me c.args.to e) c.args.to c.requires.end

pub unite-requires-clause-heir : goal.unite-requires-clause-heir
unite-requires-clause-heir g c =
    let me = number_is c.args.queues.now c.args.seats.now.items c.args.from c.index_mut.result.now c.requires.shape c.requires.pair.0
    c.index_mut.ensures.value in
    heir_at c.args.queues.now _ _ _ _ c.args.heir (ap (λ (k : ℕ). place k c.args.to) (sym me)) refl c.requires.heir

pub returns-clause-seats : goal.returns-clause-seats
returns-clause-seats g c =
    are_united c.args.queues.now c.args.seats.now.items c.args.from c.args.to c.index_mut.result.now c.unite.new.self c.requires.shape
    c.requires.pair.0 c.index_mut.ensures.value c.unite.ensures.same.0 c.unite.ensures.same.1
    (c.unite.ensures.same.2, c.unite.ensures.others, c.unite.ensures.sent)

pub returns-clause-prefix : goal.returns-clause-prefix
returns-clause-prefix g c =
    subst (λ (z : List Letter). IsPrefix c.args.heir.me.view.client.taken z)
    (list_known c.args.queues.now c.args.seats.now.items c.args.from c.index_mut.result.now c.requires.shape c.requires.pair.0
    c.index_mut.ensures.value outs_of (λ v. v.sent) c.args.to) c.unite.ensures.prefix
