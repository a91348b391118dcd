-- What holds of each node.
use Rattle.std.specs.Prelude.{◌≡◌}
use Rattle.bsp_core.specs.Views.{Ascends, nodes_in}
use Rattle.append_node.specs.declared.node.AppendNode.TheInside.{Inside}

pub record KeptNode (s : Inside) : Type 0 where
  pub count : s.desk.count ≡ s.job.nodes
  pub next : Ascends s.desk.me s.desk.count 0 (nodes_in s.next.items)
