use Rattle.std.proofs.Common.{sym}
use Rattle.chaos_node.specs.Kept.{shown_node}
use Rattle.chaos_node.proofs.GatherEnds.{never_gathers, site_there, turn_there}
use Rattle.chaos_node.proofs.node.Node.gathered.Goals as goal

pub executed-requires-clause-turn : goal.executed-requires-clause-turn
executed-requires-clause-turn c = sym c.in-Some.ensures

pub returns-in-None-clause-right : goal.returns-in-None-clause-right
returns-in-None-clause-right c =
    never_gathers c.args.self.now c.stop-in-None.result c.requires.at (turn_there c.args.self.now (sym c.in-None.ensures))
