use Rattle.std.proofs.Common.{ap}
use Rattle.bsp_mail.specs.declared.hand.Hand.{Hand}
use Rattle.bsp_mail.proofs.Steps.{unites, drops, learns}
use Rattle.bsp_mail.proofs.line.unite.Goals as goal

pub absorb-requires-clause-rule : goal.absorb-requires-clause-rule
absorb-requires-clause-rule g c = unites _ _ _ _ c.requires.from.1 c.requires.heir.1

pub pop_as-dropped-requires-clause-rule : goal.pop_as-dropped-requires-clause-rule
pop_as-dropped-requires-clause-rule g c =
    let is = c.absorb.ensures.rule in
    let a = ap (λ (v : Hand). v.sends) is in
    let b = ap (λ (v : Hand). v.takes) is in
    (drops _ _ a b, learns _ _ a b)
