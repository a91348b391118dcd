-- What a node is seen as, and what holds of each.
use Rattle.std.specs.Prelude.{◌≡◌, ℕ, ◌+◌, ◌^◌, ◌≤◌, ◌<◌, length, vec_capacity}
use Rattle.bsp_core.specs.Views.{Ascends, View, nodes_in}
use Rattle.fd_program.specs.Checks.{IsChecked}
use Rattle.chaos_entering.specs.Coming.{IsSoundActivity}
use Rattle.chaos_entering.specs.State.{NodeState}
use Rattle.chaos_node.specs.declared.node.Node.TheInside.{Inside}

abbrev pub shown_node : Inside → View NodeState
shown_node s = record {
  face = record { me = s.me; count = s.session.now.nodes; left = s.left; out = s.out.items; due = s.due.items; got = s.got.items };
  state = record { session = s.session.now; at = s.at; holdings = s.holdings; text = s.text; inspected = s.inspected; end = s.end };
}

pub record KeepsNode (s : Inside) : Type 0 where
  pub checked : IsChecked s.session.now.checked
  pub me : s.me < s.session.now.nodes
  pub few : s.session.now.nodes ≤ 16
  pub left : s.left < 2 ^ 31
  pub out : Ascends s.me s.session.now.nodes 0 (nodes_in s.out.items)
  pub due : Ascends s.me s.session.now.nodes 0 (nodes_in s.due.items)
  pub sound : IsSoundActivity s.at.activity
  pub room : length s.got.items + length s.due.items ≤ vec_capacity s.got
