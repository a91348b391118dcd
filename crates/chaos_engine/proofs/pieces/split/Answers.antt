use Rattle.fd_program.specs.Places.{parts_of}
use Rattle.chaos_holdings.specs.Starting.{block_owners}
use Rattle.chaos_dist.specs.Counting.{map-below-one}
use Rattle.chaos_engine.proofs.pieces.split.Goals as goal

pub loop-node-preserved : goal.loop-node-preserved
loop-node-preserved c =
    map-below-one (parts_of c.args.session.now.checked.arrays (block_owners c.args.session.now.nodes c.args.session.now.checked.layouts)
    c.args.store.now)
    c.loop-node.node c.loop-node.pieces c.push.new.self c.in_ok-parts_on.field-0 c.loop-node.invariant c.in_ok-parts_on.ensures
    c.in_ok-push.ensures.ok
