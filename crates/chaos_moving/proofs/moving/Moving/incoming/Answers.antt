use Rattle.chaos_moving.proofs.StageLaws.{moving_after}
use Rattle.chaos_moving.proofs.moving.Moving.incoming.Goals as goal

pub returns-clause-moving : goal.returns-clause-moving
returns-clause-moving c = λ s owners store new h is.
    moving_after c.args.self.now c.turn.new.self c.in_ok-page.page c.in_ok-stage.stage s owners store new c.args.taken
    c.in_ok-page.ensures c.in_ok-stage.ensures
    c.turn.ensures.share c.turn.ensures.form c.turn.ensures.page c.turn.ensures.stage h is
