use Rattle.inspect_places.specs.Telling.{answer_row}
use Rattle.inspect_places.proofs.Steps.{rows_step, rows_done}
use Rattle.inspect_places.proofs.answering.answer.Goals as goal

pub loop-i-preserved : goal.loop-i-preserved
loop-i-preserved c =
    rows_step (answer_row c.args.pages.now) c.args.asked.now c.loop-i.i c.loop-i.numbers c.answer_at.new.numbers _ c.loop-i-test.true
    c.in_ok-answer_at.ensures c.loop-i.invariant

pub returns : goal.returns
returns c = rows_done (answer_row c.args.pages.now) c.args.asked.now c.loop-i.i c.loop-i.numbers _ c.loop-i-test.false c.loop-i.invariant
