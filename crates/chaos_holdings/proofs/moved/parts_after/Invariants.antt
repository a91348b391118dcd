use Rattle.std.proofs.Common.{◌≡◌, ◌≤◌, ◌++◌, drop}
use Rattle.chaos_holdings.specs.Parts.{parts_with}
use Rattle.chaos_holdings.proofs.moved.parts_after.Given as goal

abbrev pub invariant-loop-array : goal.invariant-loop-array
invariant-loop-array l =
    (l.taken ≤ l.array)
    × (l.lists ++ parts_with (drop l.array l.arrays) l.decomposition (drop l.array l.parts) (drop l.taken l.pieces)
    ≡ parts_with l.arrays l.decomposition l.parts l.pieces)
