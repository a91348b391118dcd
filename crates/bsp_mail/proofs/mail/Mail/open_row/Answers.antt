use Rattle.std.proofs.Common.{◌≡◌, ℕ, subst, arith}
use Rattle.bsp_mail.specs.Opens.{IsOpening}
use Rattle.bsp_mail.proofs.Opens.{pair_skipped, row_opened}
use Rattle.bsp_mail.proofs.mail.Mail.open_row.Goals.{then-from-to+in_ok-open_pair, else-from-to}
use Rattle.bsp_mail.proofs.mail.Mail.open_row.Goals as goal

pub loop-to-preserved : goal.loop-to-preserved
loop-to-preserved c = elim c.if-from-to.branch [
  | then-from-to+in_ok-open_pair w ↦ rw w.self-is w.in_ok-open_pair.ensures
  | else-from-to w ↦ rw w.self-is (pair_skipped _ _ _ _ w.if-from-to.false c.loop-to.invariant)
]

pub returns : goal.returns
returns c =
    let m = c.loop-to.self in
    let last : c.loop-to.to ≡ 16 = omega (arith, c.loop-to.auto.to-end, c.loop-to-test.false) in
    row_opened m.queues m.seats.items c.args.from c.requires.row (subst (λ (k : ℕ). IsOpening m.queues m.seats.items c.args.from k) last
    c.loop-to.invariant)
