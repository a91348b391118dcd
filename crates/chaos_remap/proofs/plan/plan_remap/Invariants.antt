use Rattle.std.proofs.Common.{◌≡◌, pos}
use Rattle.std.specs.List.{range_with_len}
use Rattle.list_laws.specs.Dealt.{dealt}
use Rattle.chaos_remap.specs.Remapping.{new_owner}
use Rattle.chaos_remap.proofs.plan.plan_remap.Given as goal

abbrev pub invariant-loop-at : goal.invariant-loop-at
invariant-loop-at l = l.goes ≡ dealt (new_owner l.places) pos l.nodes (range_with_len 0 l.at)
