use Rattle.std.proofs.Common.{◌≡◌, take, map}
use Rattle.chaos_remap.specs.Remapping.{packed_rows}
use Rattle.chaos_moving.proofs.remap.pack_all.Given as goal

abbrev pub invariant-loop-addresses : goal.invariant-loop-addresses
invariant-loop-addresses l = l.lists ≡ map (packed_rows l.elements l.pieces) (take l.addresses-index l.goes)
