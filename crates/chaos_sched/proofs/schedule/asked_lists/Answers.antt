use Rattle.std.proofs.Common.{ℕ, ap, ◌∙◌}
use Rattle.fd_words.specs.Lists.{list_at}
use Rattle.chaos_sched.specs.Scheduled.{asked_by}
use Rattle.chaos_sched.proofs.Each.{one_more}
use Rattle.chaos_sched.proofs.schedule.asked_lists.Goals as goal

pub loop-node-preserved : goal.loop-node-preserved
loop-node-preserved c =
    one_more (λ (q : ℕ). asked_by c.args.number (list_at c.args.asks.now q)) c.loop-node.node c.loop-node.lists c.push.new.self _
    c.loop-node.invariant c.in_ok-push.ensures.ok
    (c.from_vec.ensures ∙ c.in_ok-items.ensures ∙ ap (asked_by c.args.number) c.rows_of.ensures)
