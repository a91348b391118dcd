use Rattle.std.proofs.Common.{◌≡◌, ℕ, ◌<◌, ◌==◌, length, take, map, get_or, count_by}
use Rattle.chaos_dist.specs.Counting.{below}
use Rattle.chaos_deref.specs.Asking.{page_for, joined_at}
use Rattle.chaos_deref.proofs.joined.join_answers.Given as goal

abbrev pub invariant-loop-i : goal.invariant-loop-i
invariant-loop-i l = record {
  size : length l.taken ≡ 16;
  placed : l.places ≡ map (joined_at l.extent l.nodes l.all l.answers) (below l.i);
  taken : (k : ℕ) → k < 16 → get_or l.taken k 0 ≡ count_by (λ v. page_for l.extent l.nodes v == k) (take l.i l.all);
}
