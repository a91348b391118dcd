use Rattle.std.proofs.Common.{◌≡◌, length, arith}
use Rattle.std.specs.Prelude.{◌/◌, fold}
use Rattle.chaos_execute.specs.Numbered.{rows_at}
use Rattle.chaos_execute.specs.Pending.{put_slot}
use Rattle.chaos_execute.proofs.Numbering.{slots_more, slots_over}
use Rattle.chaos_execute.proofs.numbered_rows.fill_from.Goals as goal

pub loop-at-preserved : goal.loop-at-preserved
loop-at-preserved c =
    let a = c.args in
    slots_more a.rows.now c.loop-at.at _ _ c.loop-at.numbers c.put.new.numbers (fold put_slot a.numbers.now (rows_at a.rows.now))
    (omega arith)
    c.put.ensures c.loop-at.invariant

pub returns : goal.returns
returns c =
    let a = c.args in
    let half : c.loop-at.at ≡ length a.rows.now / 2 = let most = c.loop-at.auto.at-end in let least = c.loop-at-test.false in
    omega (arith, most, least) in
    slots_over a.rows.now c.loop-at.at c.loop-at.numbers (fold put_slot a.numbers.now (rows_at a.rows.now)) half c.loop-at.invariant
