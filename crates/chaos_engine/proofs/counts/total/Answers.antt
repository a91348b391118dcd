use Rattle.std.proofs.Common.{arith}
use Rattle.chaos_engine.proofs.Totals.{get_some, total_more, total_whole}
use Rattle.chaos_engine.proofs.counts.total.Goals as goal

pub loop-at-preserved : goal.loop-at-preserved
loop-at-preserved c = λ done.
    let found = get_some c.args.nodes.now c.loop-at.at (omega (arith, c.loop-at-test.true)) in
    total_more c.args.site c.args.nodes.now c.loop-at.at found.0 c.loop-at.count c.count_at.result c.in_ok-count.count found.1
    (c.loop-at.invariant done)
    (c.count_at.ensures found.0 found.1 (done c.loop-at.at found.0 found.1)) c.in_ok-count.ensures

pub returns : goal.returns
returns c = λ done. total_whole c.args.site c.args.nodes.now c.loop-at.at c.loop-at.count (omega (arith, c.loop-at-test.false))
    (c.loop-at.invariant done)
