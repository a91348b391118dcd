use Rattle.std.proofs.Common.{◌≡◌, take}
use Rattle.chaos_remap.specs.Remapping.{packed_rows}
use Rattle.chaos_remap.proofs.pack.pack_remap.Given as goal

abbrev pub invariant-loop-address : goal.invariant-loop-address
invariant-loop-address l = l.numbers ≡ packed_rows l.mine l.pieces (take l.address-index l.addresses)
