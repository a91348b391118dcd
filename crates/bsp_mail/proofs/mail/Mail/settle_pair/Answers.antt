use Rattle.std.proofs.Common.{List, sym, refl, ap, ◌∙◌, subst}
use Rattle.std.specs.List.{slice_get}
use Rattle.chaos_letter.specs.declared.letter.Letter.{Letter}
use Rattle.bsp_mail.specs.Rule.{IsPrefix}
use Rattle.bsp_mail.specs.Seats.{below}
use Rattle.bsp_mail.proofs.Settles.{lists_then, else_then}
use Rattle.bsp_mail.proofs.mail.Mail.settle_pair.Goals as goal

pub unite_ends-requires-clause-end : goal.unite_ends-requires-clause-end
unite_ends-requires-clause-end g c e at = c.requires.opened.outs e (ap (λ l. slice_get l (below c.args.from c.args.to))
    (sym (c.retire_end-heir.ensures.seats.outs c.args.from)) ∙ at)

pub unite_ends-requires-clause-heir : goal.unite_ends-requires-clause-heir
unite_ends-requires-clause-heir g c = let h = c.retire_end-heir.ensures.heir in (h.0, h.1, refl)

pub returns-clause-same : goal.returns-clause-same
returns-clause-same g c = lists_then _ _ _ c.retire_end-heir.ensures.seats.same c.unite_ends.ensures.seats.same

pub returns-clause-others : goal.returns-clause-others
returns-clause-others g c = else_then _ _ _ _ _ c.retire_end-heir.ensures.seats.others c.unite_ends.ensures.seats.others

pub returns-clause-prefix : goal.returns-clause-prefix
returns-clause-prefix g c =
    let pair = c.requires.pair in
    let a = c.retire_end-heir.ensures.seats.same in
    let b = c.unite_ends.ensures.seats.same in
    let taken = c.retire_end-heir.ensures.heir.2 ∙ sym (b.taken _ _ pair ∙ a.taken _ _ pair) in
    let sent = sym (b.sent _ _ pair) in
    subst (λ (z : List Letter × List Letter). IsPrefix z.0 z.1) (λ i. (taken i, sent i)) c.unite_ends.ensures.prefix
