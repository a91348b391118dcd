use Rattle.std.proofs.Common.{◌≡◌, ◌++◌, ◌+ℤ◌, ◌-ℤ◌, ◌≤ℤ◌, pos}
use Rattle.chaos_dist.specs.Homes.{natural}
use Rattle.fd_program.specs.Loops.{range_of}
use Rattle.fd_meaning.proofs.range.iterations.Given as goal

abbrev pub invariant-loop-i : goal.invariant-loop-i
invariant-loop-i l = record {
  low : l.low ≤ℤ l.i;
  rest : l.list ++ range_of l.i l.high ≡ range_of l.low l.high;
}

abbrev pub decreases-loop-i : goal.decreases-loop-i
decreases-loop-i l = natural (l.high -ℤ l.i +ℤ pos 1)
