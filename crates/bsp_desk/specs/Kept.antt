-- What a desk is seen as, and what holds of each.
use Rattle.std.specs.Prelude.{◌+◌, ◌^◌, ◌≤◌, ◌<◌, length, vec_capacity}
use Rattle.bsp_core.specs.Views.{Face, Ascends, nodes_in}
use Rattle.bsp_desk.specs.declared.desk.Desk.TheInside.{Inside}

abbrev pub shown_desk : Inside → Face
shown_desk s = record { me = s.me; count = s.count; left = s.left; out = s.out.items; due = s.due.items; got = s.got.items }

pub record Kept (s : Inside) : Type 0 where
  pub me : s.me < s.count
  pub few : s.count ≤ 16
  pub left : s.left < 2 ^ 31
  pub out : Ascends s.me s.count 0 (nodes_in s.out.items)
  pub due : Ascends s.me s.count 0 (nodes_in s.due.items)
  pub room : length s.got.items + length s.due.items ≤ vec_capacity s.got
