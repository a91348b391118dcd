use Rattle.append_node.proofs.nodes.nodes_end_with_the_lines.Goals as goal
use Rattle.append_node.specs.Ending.{nodes_end_with_the_lines as law}

pub returns : goal.returns
returns c = law
