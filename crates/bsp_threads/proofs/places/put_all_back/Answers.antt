use Rattle.std.proofs.Common.{◌≡◌, ◌∷◌, [], ◌<◌, length, ◌∙◌, arith, length-append, rules}
use Rattle.bsp_threads.proofs.Placing.{back_more, same_more}
use Rattle.bsp_threads.proofs.places.put_all_back.Goals as goal

pub loop-seat-preserved : goal.loop-seat-preserved
loop-seat-preserved g c =
    let i = c.loop-seat.invariant in
    let ys = c.loop-seat.yielded in
    let ns = c.loop-seat.nodes.items in
    let cur = c.loop-seat.mails.items in
    let at = c.len-at.result in
    let x = c.in-Some.seat in
    let room : at < length cur = search (rules, c.if-prove.false) in
    let is : at ≡ length ns = search rules in
    let same = same_more (length ys) at c.args.mails.now.items cur x.mail (let n = i.3.count in omega arith) i.4 in (
      tt,
      tt,
      c.push_reserved.ensures.capacity ∙ i.2,
      rw (c.push_reserved.ensures.items, c.into_parts-node.ensures.0, c.into_parts-node.ensures.1) (back_more ys ns cur x at is room i.3),
      rw c.into_parts-node.ensures.1 (same.0, λ j h. same.1 j (let k = length-append ys (x ∷ []) in omega arith)),
    )
