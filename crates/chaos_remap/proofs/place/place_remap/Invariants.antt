use Rattle.std.proofs.Common.{◌≡◌, ◌-◌, map}
use Rattle.std.specs.List.{range_with_len}
use Rattle.chaos_remap.specs.Rows.{column_of}
use Rattle.chaos_remap.proofs.place.place_remap.Given as goal

abbrev pub invariant-loop-place : goal.invariant-loop-place
invariant-loop-place l = l.pieces ≡ map (column_of l.taken l.rows.items) (range_with_len 1 (l.place - 1))
