use Rattle.std.proofs.Common.{◌≡◌, map}
use Rattle.std.specs.List.{range_with_len}
use Rattle.fd_words.specs.Lists.{list_at}
use Rattle.chaos_sched.specs.Scheduled.{asked_by}
use Rattle.chaos_sched.proofs.schedule.asked_lists.Given as goal

abbrev pub invariant-loop-node : goal.invariant-loop-node
invariant-loop-node l = l.lists ≡ map (λ q. asked_by l.number (list_at l.asks q)) (range_with_len 0 l.node)
