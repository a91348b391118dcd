use Rattle.chaos_node.specs.Kept.{shown_node}
use Rattle.chaos_node.proofs.GatherEnds.{kept_there, never_gathers}
use Rattle.chaos_node.proofs.Making.{kept_same}
use Rattle.chaos_node.proofs.node.Node.end_gather.Goals as goal

pub gathered-requires-clause-kept : goal.gathered-requires-clause-kept
gathered-requires-clause-kept c =
    kept_same (shown_node c.self.inside) c.args.self.now c.as_slice.result.now _ c.self.view_is c.as_slice.ensures c.in-Some.ensures

pub returns-in-None-clause-right : goal.returns-in-None-clause-right
returns-in-None-clause-right c =
    never_gathers c.args.self.now c.stop.result c.requires.at
    (kept_there c.args.self.now (kept_same
    (shown_node c.self.inside) c.args.self.now c.as_slice.result.now _ c.self.view_is c.as_slice.ensures
    c.in-None.ensures))
