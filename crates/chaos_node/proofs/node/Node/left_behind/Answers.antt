use Rattle.std.proofs.Common.{sym}
use Rattle.chaos_node.specs.Kept.{shown_node}
use Rattle.chaos_node.proofs.Making.{one_behind, some_inside}
use Rattle.chaos_node.proofs.node.Node.left_behind.Goals as goal

pub overflow_sub-result : goal.overflow_sub-result
overflow_sub-result c = some_inside (shown_node c.self.inside) c.args.self.now c.self.view_is c.requires

pub returns : goal.returns
returns c = sym (one_behind (shown_node c.self.inside) c.args.self.now c.self.view_is c.requires)
