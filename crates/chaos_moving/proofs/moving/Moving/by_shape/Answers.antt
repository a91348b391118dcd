use Rattle.chaos_moving.proofs.StageLaws.{begun_by_shape}
use Rattle.chaos_moving.proofs.moving.Moving.by_shape.Goals as goal

pub returns-clause-moving : goal.returns-clause-moving
returns-clause-moving c = λ s owners store h. begun_by_shape c.args.share c.args.shape c.in_ok-places.places s owners store
    c.in_ok-places.ensures h
