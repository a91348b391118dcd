use Rattle.std.proofs.Common.{◌≡◌, ◌++◌, map, take}
use Rattle.chaos_remap.specs.Remapping.{number_at_address}
use Rattle.chaos_remap.proofs.pack.add_values.Given as goal

abbrev pub invariant-loop-piece : goal.invariant-loop-piece
invariant-loop-piece l = l.numbers ≡ l.fn.numbers ++ map (λ piece. number_at_address piece l.address) (take l.piece-index l.pieces)
