use Rattle.std.proofs.Common.{◌≡◌, ℕ, subst, arith}
use Rattle.bsp_mail.specs.Opens.{IsOpening}
use Rattle.bsp_mail.proofs.Wholes.{all_opened}
use Rattle.bsp_mail.proofs.mail.Mail.new.Goals as goal

pub returns : goal.returns
returns c =
    let last : c.loop-from.from ≡ 16 = omega (arith, c.loop-from.auto.from-end, c.loop-from-test.false) in
    let m = c.loop-from.mail in
    all_opened m.queues m.seats.items (subst (λ (k : ℕ). IsOpening m.queues m.seats.items k 0) last c.loop-from.invariant)
