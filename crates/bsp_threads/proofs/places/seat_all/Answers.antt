use Rattle.std.proofs.Common.{◌≡◌, ◌∷◌, [], ◌<◌, ◌≤◌, length, Some, sym, refl, ap, ◌∙◌, arith, length-append, rules}
use Rattle.std.specs.List.{slice_get}
use Rattle.std.proofs.lemmas.Option.{slice_get_read}
use Rattle.bsp_mail.specs.declared.seat.MailSeat.{MailSeat}
use Rattle.bsp_threads.specs.declared.seat.DriveSeat.{DriveSeat}
use Rattle.bsp_threads.specs.declared.seat.Standing.TheVariants.{Going}
use Rattle.bsp_threads.proofs.Placing.{seated_more, same_more}
use Rattle.bsp_threads.proofs.places.seat_all.Goals as goal

pub loop-node-preserved : goal.loop-node-preserved
loop-node-preserved g c =
    let i = c.loop-node.invariant in
    let xs = c.loop-node.seats.items in
    let ns = c.loop-node.yielded in
    let cur = c.loop-node.mails.items in
    let dest = c.index_mut.result.now in
    let at = c.len-at.result in
    let room : at < length cur = search (rules, c.if-prove.false) in
    let is : at ≡ length xs = search rules in
    let long : length ns ≤ at = let n = i.3.count in omega arith in
    let x : DriveSeat g.row.N.Denot = record { node = c.in-Some.node; mail = c.replace-mail.result; works = 0; standing = Going } in
    let here : slice_get c.args.mails.now.items (length xs) ≡ Some x.mail =
    ap (λ k. slice_get c.args.mails.now.items k) (sym is) ∙ sym (i.4.1 at long)
    ∙ slice_get_read cur (length cur) at dest refl room c.index_mut.ensures.value
    ∙ ap (λ (m : MailSeat). Some m) (sym c.replace-mail.ensures.value) in
    let same = same_more (length ns) at c.args.mails.now.items cur c.replace-mail.new.dest (let n = i.3.count in omega arith) i.4 in (
      tt,
      tt,
      c.push_reserved.ensures.capacity ∙ i.2,
      rw (c.push_reserved.ensures.items, c.new.ensures) (seated_more ns c.args.mails.now.items xs c.in-Some.node x i.3 refl here refl),
      (same.0, λ j h. same.1 j (let k = length-append ns (c.in-Some.node ∷ []) in omega arith)),
    )
