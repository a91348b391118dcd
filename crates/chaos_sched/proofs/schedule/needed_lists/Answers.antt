use Rattle.std.proofs.Common.{ℕ, ap, ◌∙◌}
use Rattle.chaos_sched.specs.Scheduled.{needed_from}
use Rattle.chaos_sched.proofs.Each.{one_more}
use Rattle.chaos_sched.proofs.schedule.needed_lists.Goals as goal

pub loop-owner-preserved : goal.loop-owner-preserved
loop-owner-preserved c =
    one_more (λ (q : ℕ). needed_from c.args.role q c.args.needs.now) c.loop-owner.owner c.loop-owner.lists c.push.new.self _
    c.loop-owner.invariant c.in_ok-push.ensures.ok
    (c.from_vec.ensures ∙ c.in_ok-items.ensures ∙ ap (needed_from c.args.role c.loop-owner.owner) c.as_slice-all.ensures)
