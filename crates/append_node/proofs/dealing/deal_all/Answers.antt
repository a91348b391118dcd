use Rattle.std.proofs.Common.{[], replicate}
use Rattle.append_node.proofs.Walks.{parts_kept}
use Rattle.append_node.proofs.dealing.deal_all.Goals as goal

pub loop-node-preserved : goal.loop-node-preserved
loop-node-preserved c =
    parts_kept c.args.layout.extent c.args.layout.nodes (replicate c.args.layout.nodes []) c.loop-node.lists c.deal.new.lists c.args.me
    c.args.own.now
    c.args.got.now c.part.result.now c.loop-node.node c.loop-node.invariant c.part.ensures c.in_ok-deal.ensures
