use Rattle.std.proofs.Common.{◌≡◌, refl, ◌+◌, ◌*◌, ◌/◌, ◌%◌, ◌<◌, arith, ◌∙◌, subst}
use Rattle.bsp_mail.specs.declared.queues.Queues.{Queues}
use Rattle.bsp_mail.specs.Mails.{IsShaped}
use Rattle.bsp_mail.proofs.Settles.{settled_more, settled_skip}
use Rattle.bsp_mail.proofs.Wholes.{settling_begins}
use Rattle.bsp_mail.proofs.mail.Mail.settle.Goals.{then-from-to, else-from-to}
use Rattle.bsp_mail.proofs.mail.Mail.settle.Goals as goal

pub loop-n-preserved : goal.loop-n-preserved
loop-n-preserved g c =
    let n = c.loop-n.n in
    let i = c.loop-n.invariant in
    let split : n ≡ 16 * (n / 16) + n % 16 = omega arith in
    let small : n % 16 < 16 = omega arith in
    elim c.if-from-to.branch [
      | then-from-to w ↦ let e = w.settle_pair.ensures in
          rw w.self-is (
            e.queues ∙ i.0,
            settled_more _ _ _ _ n (n / 16) (n % 16) split small i.1
                (subst (λ (k : Queues). IsShaped k w.settle_pair.new.self.seats.items) i.0 e.shape) e.same e.others e.prefix,
          )
      | else-from-to w ↦ rw w.self-is (i.0, settled_skip _ _ _ n (n / 16) (n % 16) split small w.if-from-to.false i.1)
    ]

pub loop-n-init : goal.loop-n-init
loop-n-init g c = (refl, settling_begins _ _ c.requires)
