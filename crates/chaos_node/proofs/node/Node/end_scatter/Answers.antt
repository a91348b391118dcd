use Rattle.std.proofs.Common.{sym, ◌∙◌}
use Rattle.std.proofs.lemmas.Result.{IfOk-weaker}
use Rattle.chaos_node.proofs.Scattering.{executing_is, none_executing}
use Rattle.chaos_node.proofs.node.Node.end_scatter.Goals as goal

pub scattered-requires-clause-at : goal.scattered-requires-clause-at
scattered-requires-clause-at c = executing_is c.args.self.now.state.at.activity c.in-Some.executing.now (sym c.in-Some.ensures)

pub returns-in-None-clause-made : goal.returns-in-None-clause-made
returns-in-None-clause-made c = IfOk-weaker c.stopped.result _ _ (λ x made. made c.args.parts.now) c.stopped.ensures

pub returns-in-None-clause-right : goal.returns-in-None-clause-right
returns-in-None-clause-right c = absurd (none_executing c.args.self.now.state.at.activity c.requires.at (sym c.in-None.ensures))
