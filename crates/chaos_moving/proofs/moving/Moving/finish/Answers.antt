use Rattle.chaos_moving.proofs.StageLaws.{ended}
use Rattle.chaos_moving.proofs.moving.Moving.finish.Goals as goal

pub returns : goal.returns
returns c = λ s owners store new h.
    ended c.args.self c.in-Moved.part c.with_page.result s owners store new c.in-Moved.is c.with_page.ensures.elements
    c.with_page.ensures.pieces c.with_page.ensures.page h
