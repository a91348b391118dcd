use Rattle.std.proofs.Common.{◌≡◌, ℕ, ◌<◌, ◌≤◌, length, get_or}
use Rattle.chaos_table.specs.Pages.{earlier}
use Rattle.chaos_table.proofs.pages.all_earlier.Given as goal

abbrev pub invariant-loop-node : goal.invariant-loop-node
invariant-loop-node l = record {
  size : length l.all ≡ 16;
  earlier : (k : ℕ) → k < l.node → get_or l.all k 0 ≡ earlier l.extent l.counts l.page k;
  small : (k : ℕ) → k < l.node → get_or l.all k 0 ≤ 68719476736;
}
