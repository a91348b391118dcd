use Rattle.std.proofs.Common.{◌≡◌, ◌++◌, ◌^◌, ◌+ℤ◌, ◌-ℤ◌, ◌≤ℤ◌, pos}
use Rattle.chaos_dist.specs.Homes.{natural}
use Rattle.fd_program.specs.Loops.{range_of}
use Rattle.chaos_inspect.proofs.range.inspected.Given as goal

abbrev pub invariant-loop-i : goal.invariant-loop-i
invariant-loop-i l = record {
  low : pos 0 ≤ℤ (l.i +ℤ pos (2 ^ 63));
  rest : l.list ++ range_of l.i l.last ≡ range_of l.first l.last;
}

abbrev pub decreases-loop-i : goal.decreases-loop-i
decreases-loop-i l = natural (l.last -ℤ l.i +ℤ pos 1)
