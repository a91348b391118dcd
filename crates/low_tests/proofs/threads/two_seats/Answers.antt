use Rattle.std.proofs.Common.{◌<◌, length, Some, sym, refl, ap, ◌∙◌, arith}
use Rattle.std.proofs.lemmas.Option.{slice_get_read}
use Rattle.std.proofs.lemmas.List.{get_or-set_other}
use Rattle.bsp_mail.specs.declared.seat.MailSeat.{MailSeat}
use Rattle.low_tests.proofs.threads.two_seats.Goals as goal

pub returns-clause-first : goal.returns-clause-first
returns-clause-first c =
    let xs = c.args.mail.now.seats.items in
    let room : 0 < length xs = let e = c.requires.whole.count in omega arith in
    c.requires.whole.each 0 c.replace-first.result
    (slice_get_read xs (length xs) 0 c.index_mut.result.now refl room c.index_mut.ensures.value
    ∙ ap (λ (m : MailSeat). Some m) (sym c.replace-first.ensures.value))

pub returns-clause-second : goal.returns-clause-second
returns-clause-second c =
    let xs = c.args.mail.now.seats.items in
    let room : 1 < length xs = let e = c.requires.whole.count in omega arith in
    let got = c.index_mut-2.ensures.value ∙ get_or-set_other xs 0 1 c.replace-first.new.dest c.index_mut-2.result.now (omega arith) in
    c.requires.whole.each 1 c.replace-second.result
    (slice_get_read xs (length xs) 1 c.index_mut-2.result.now refl room got
    ∙ ap (λ (m : MailSeat). Some m) (sym c.replace-second.ensures.value))
