use Rattle.std.proofs.Common.{ℕ, ap, ◌∙◌}
use Rattle.chaos_sched.specs.Scheduled.{ask_to}
use Rattle.chaos_sched.proofs.Each.{one_more}
use Rattle.chaos_sched.proofs.asks.asks_of.Goals as goal

pub loop-owner-preserved : goal.loop-owner-preserved
loop-owner-preserved c =
    one_more (λ (q : ℕ). ask_to q c.args.needs.now) c.loop-owner.owner c.loop-owner.asks c.push.new.self _ c.loop-owner.invariant
    c.in_ok-push.ensures.ok
    (c.in_ok-ask.ensures ∙ ap (ask_to c.loop-owner.owner) c.as_slice.ensures)
