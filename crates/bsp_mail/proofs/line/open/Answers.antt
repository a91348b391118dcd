use Rattle.std.proofs.Common.{refl, ap, sym}
use Rattle.bsp_mail.specs.declared.hand.Hand.{Hand}
use Rattle.bsp_mail.specs.Rule.{sender, receiver}
use Rattle.bsp_mail.proofs.Steps.{begins, gives}
use Rattle.bsp_mail.proofs.line.open.Goals as goal

pub with_rule-requires : goal.with_rule-requires
with_rule-requires c = begins

pub another-other-requires-clause-rule : goal.another-other-requires-clause-rule
another-other-requires-clause-rule c =
    let is = c.in_ok-line.ensures.2 in
    gives _ _ sender receiver (ap (λ (v : Hand). v.takes) is) refl
    (λ _. (ap (λ (v : Hand). v.sends) is, ap (λ (v : Hand). v.sent) (sym is))) refl (ap (λ (v : Hand). v.taken) (sym is))
    (ap (λ (v : Hand). v.dropped) (sym is))
