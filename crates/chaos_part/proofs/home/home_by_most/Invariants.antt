use Rattle.std.proofs.Common.{ℕ, ◌≤◌, ◌<◌, get_or}
use Rattle.chaos_part.proofs.home.home_by_most.Given as goal

abbrev pub invariant-loop-node : goal.invariant-loop-node
invariant-loop-node l = record {
  seen : l.home < l.node;
  none_more : (m : ℕ) → m < l.node → get_or l.counts m 0 ≤ get_or l.counts l.home 0;
  lower_less : (m : ℕ) → m < l.home → get_or l.counts m 0 < get_or l.counts l.home 0;
}
