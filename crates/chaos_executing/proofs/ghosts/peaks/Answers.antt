use Rattle.std.proofs.Common.{ℕ}
use borrow.Author.Count.{below_more}
use Rattle.chaos_hash.specs.Stamps.{IsStamped}
use Rattle.plan_tables.specs.Tables.{table_at}
use Rattle.chaos_sched.proofs.Each.{one_more}
use Rattle.chaos_executing.proofs.ghosts.peaks.Goals as goal

pub loop-d-preserved : goal.loop-d-preserved
loop-d-preserved c = (
  one_more (λ (d : ℕ). (table_at c.args.tables.now d).peak) c.loop-d.d c.loop-d.peaks.items c.push.new.self.items _ c.loop-d.invariant.0
      c.in_ok-push.ensures.items c.peak.ensures.peak,
  below_more (λ (d : ℕ). IsStamped (table_at c.args.tables.now d)) c.loop-d.d c.loop-d.invariant.1 c.peak.ensures.stamped,
)
