use Rattle.std.proofs.Common.{◌≡◌, ℕ, ◌<◌, ◌==◌, length, take, get_or, count_by}
use Rattle.chaos_dist.proofs.counts.tally.Given as goal

abbrev pub invariant-loop-owner : goal.invariant-loop-owner
invariant-loop-owner l = record {
  places : length l.counts ≡ 16;
  counted : (k : ℕ) → k < 16 → get_or l.counts k 0 ≡ count_by (λ o. o == k) (take l.owner-index l.owners);
}
