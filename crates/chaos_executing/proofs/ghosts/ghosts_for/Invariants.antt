use Rattle.std.proofs.Common.{◌≡◌, take}
use Rattle.chaos_executing.specs.Ghosts.{ghosts_below}
use Rattle.chaos_executing.proofs.ghosts.ghosts_for.Given as goal

abbrev pub invariant-loop-array : goal.invariant-loop-array
invariant-loop-array l = l.ghosts ≡ ghosts_below (take l.array-index l.arrays) l.peaks
