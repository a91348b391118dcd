use Rattle.bsp_desk.specs.Uniform.{uniform_end}
use Rattle.bisect_node.specs.Plans.{round_at}
use Rattle.bisect_node.specs.Stages.{phases_of}
use Rattle.bisect_node.proofs.laws.nodes_end_with_the_map.Goals as goal

pub returns : goal.returns
returns c plan end p state is holds = holds.text (uniform_end plan.nodes (phases_of plan.parts) (round_at plan) end is)
