use Rattle.std.proofs.Common.{◌≡◌, ℕ, ◌<◌, ◌+◌, ◌==◌, length, take, map, get_or, count_by}
use Rattle.chaos_dist.specs.Counting.{up_to}
use Rattle.chaos_table.specs.Pages.{place_on}
use Rattle.chaos_table.proofs.pages.placed.Given as goal

abbrev pub invariant-loop-owner : goal.invariant-loop-owner
invariant-loop-owner l = record {
  size : length l.next ≡ 16;
  placed : l.places ≡ map (place_on (λ node. get_or l.fn.before node 0) l.owners) (up_to l.owner-index);
  next : (k : ℕ) → k < 16 → get_or l.next k 0 ≡ get_or l.fn.before k 0 + count_by (λ o. o == k) (take l.owner-index l.owners);
}
