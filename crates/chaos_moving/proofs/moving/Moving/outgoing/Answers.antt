use Rattle.chaos_moving.proofs.StageLaws.{moving_sends}
use Rattle.chaos_moving.proofs.moving.Moving.outgoing.Goals as goal

pub returns : goal.returns
returns c = λ s owners store new h. moving_sends c.args.self.now c.in_ok-lists.lists s owners store new c.in_ok-lists.ensures h
