use Rattle.fd_program.specs.Places.{part_of}
use Rattle.chaos_holdings.specs.Starting.{block_owners}
use Rattle.chaos_dist.specs.Counting.{map-below-one}
use Rattle.chaos_engine.proofs.pieces.parts_on.Goals as goal

pub loop-array-preserved : goal.loop-array-preserved
loop-array-preserved c =
    map-below-one (part_of c.args.checked.now.arrays (block_owners c.args.nodes c.args.checked.now.layouts) c.args.store.now c.args.node)
    c.loop-array.array c.loop-array.parts c.push.new.self c.in_ok-part_on.field-0 c.loop-array.invariant c.in_ok-part_on.ensures
    c.in_ok-push.ensures.ok
