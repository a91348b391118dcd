use Rattle.std.proofs.Common.{ap, ◌∙◌}
use Rattle.bsp_core.specs.Views.{View}
use Rattle.chaos_entering.specs.State.{NodeState}
use Rattle.std.specs.Prelude.{map}
use Rattle.chaos_engine.specs.Counts.{total_counts}
use Rattle.chaos_engine.proofs.Totals.{ends_at, totals_more}
use Rattle.chaos_engine.proofs.counts.totals.Goals as goal

pub loop-site-preserved : goal.loop-site-preserved
loop-site-preserved c =
    totals_more c.args.nodes.now c.as_slice-all.result.now c.loop-site.site c.loop-site.counts c.push.new.self c.in_ok-total.field-0
    c.as_slice-all.ensures c.loop-site.invariant.0 c.loop-site.invariant.1
    c.in_ok-total.ensures c.in_ok-push.ensures.ok

pub returns-clause-length : goal.returns-clause-length
returns-clause-length c = c.loop-site.invariant.0 ∙ ends_at c.loop-site.site c.args.sites c.loop-site-test.false c.loop-site.auto.site-end

pub returns-clause-totals : goal.returns-clause-totals
returns-clause-totals c = λ done.
    c.loop-site.invariant.1 done ∙ ap (λ n. total_counts n (map (λ (v : View NodeState). v.state.end.counts) c.args.nodes.now))
    (ends_at c.loop-site.site c.args.sites c.loop-site-test.false c.loop-site.auto.site-end)
