use Rattle.chaos_node.specs.EndLaws.{nodes_end_with_run}
use Rattle.chaos_node.proofs.laws.nodes_end_with_the_run.Goals as goal

pub returns : goal.returns
returns c = nodes_end_with_run
