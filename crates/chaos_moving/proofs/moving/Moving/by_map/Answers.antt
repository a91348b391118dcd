use Rattle.chaos_moving.proofs.StageLaws.{begun_by_map}
use Rattle.chaos_moving.proofs.moving.Moving.by_map.Goals as goal

pub returns-clause-moving : goal.returns-clause-moving
returns-clause-moving c = λ s owners store h map_is.
    begun_by_map c.args.share c.args.array c.args.offset c.args.elements.now c.args.values.now c.in_ok-pairs.pairs s owners store
    c.in_ok-pairs.ensures h map_is
