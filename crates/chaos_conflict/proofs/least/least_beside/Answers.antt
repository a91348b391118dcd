use Rattle.std.proofs.Common.{◌∙◌, ap, arith}
use Rattle.chaos_conflict.specs.Clashes.{lesser, side_by_side}
use Rattle.chaos_conflict.proofs.Beside.{beside_all, beside_more}
use Rattle.chaos_conflict.proofs.least.least_beside.Goals as goal

pub loop-at-preserved : goal.loop-at-preserved
loop-at-preserved c =
    beside_more c.args.rows.now c.loop-at.at _ c.loop-at.least c.lesser_of-least.result (side_by_side c.args.rows.now)
    (omega (arith, c.loop-at.auto.at)) c.loop-at-test.true
    (c.lesser_of-least.ensures ∙ ap (lesser c.loop-at.least) c.clash_between.ensures) c.loop-at.invariant

pub returns : goal.returns
returns c =
    beside_all c.args.rows.now c.loop-at.at c.loop-at.least (side_by_side c.args.rows.now) (omega (arith, c.loop-at.auto.at))
    (omega (arith, c.loop-at-test.false)) c.loop-at.invariant
