use Rattle.std.proofs.lemmas.Result.{IfOk-weaker}
use Rattle.chaos_node.specs.Changing.{change_with, with_parts}
use Rattle.chaos_node.specs.Kept.{shown_node}
use Rattle.chaos_node.proofs.Making.{kept_same}
use Rattle.chaos_node.proofs.ScatterEnds.{never_scatters}
use Rattle.chaos_node.proofs.node.Node.scattered.Goals as goal

pub applied-requires-clause-kept : goal.applied-requires-clause-kept
applied-requires-clause-kept c =
    kept_same (shown_node c.self.inside) c.args.self.now c.as_slice.result.now _ c.self.view_is c.as_slice.ensures c.in-Some.ensures

pub returns-in-None-clause-made : goal.returns-in-None-clause-made
returns-in-None-clause-made c = IfOk-weaker c.stopped.result _ _ (λ x made. made c.args.parts.now) c.stopped.ensures

pub returns-in-None-clause-right : goal.returns-in-None-clause-right
returns-in-None-clause-right c =
    IfOk-weaker c.stopped.result _ _ (λ x made.
    never_scatters (with_parts c.args.self.now c.args.parts.now) c.args.executing.now (change_with c.args.parts.now x) c.requires.at
    (kept_same (shown_node c.self.inside) c.args.self.now c.as_slice.result.now _ c.self.view_is c.as_slice.ensures c.in-None.ensures))
    c.stopped.ensures
