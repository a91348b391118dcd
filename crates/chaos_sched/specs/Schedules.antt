-- The schedule of a node, list by list.
use Rattle.std.specs.Prelude.{ℕ, ℤ, List, map}
use Rattle.std.specs.List.{range_with_len}
use Rattle.fd_words.specs.declared.place.Role.TheVariants.{Read, Target}
use Rattle.fd_words.specs.Lists.{list_at}
use Rattle.chaos_sched.specs.declared.need.Need.{Need}
use Rattle.chaos_sched.specs.declared.schedule.Schedule.{Schedule}
use Rattle.chaos_sched.specs.Scheduled.{needed_from, asked_by}

abbrev pub schedule_of : ℕ → List Need → List (List ℤ) → Schedule
schedule_of nodes needs asks = record {
  gather_send = map (λ q. asked_by 0 (list_at asks q)) (range_with_len 0 nodes);
  gather_fetch = map (λ q. needed_from Read q needs) (range_with_len 0 nodes);
  scatter_send = map (λ q. needed_from Target q needs) (range_with_len 0 nodes);
  scatter_take = map (λ q. asked_by 1 (list_at asks q)) (range_with_len 0 nodes);
}
