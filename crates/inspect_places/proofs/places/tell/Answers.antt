use Rattle.inspect_places.proofs.Steps.{told_step, told_done, drawn_step, drawn_done}
use Rattle.inspect_places.proofs.places.tell.Goals as goal

pub loop-i-preserved : goal.loop-i-preserved
loop-i-preserved c = record {
  told = told_step c.args.answers.now c.args.wanted.now c.loop-i.i c.loop-i.drawn c.tell_at.new.drawn c.loop-i.numbers
      c.tell_at.new.numbers _ c.loop-i-test.true
      c.in_ok-tell_at.ensures.told c.in_ok-tell_at.ensures.drawn c.loop-i.invariant.told;
  drawn = drawn_step c.args.answers.now c.args.wanted.now c.loop-i.i c.loop-i.drawn c.tell_at.new.drawn _ c.loop-i-test.true
      c.in_ok-tell_at.ensures.drawn c.loop-i.invariant.drawn;
}

pub returns-clause-told : goal.returns-clause-told
returns-clause-told c = told_done c.args.answers.now c.args.wanted.now c.loop-i.i c.loop-i.drawn c.loop-i.numbers _ c.loop-i-test.false
    c.loop-i.invariant.told

pub returns-clause-drawn : goal.returns-clause-drawn
returns-clause-drawn c = drawn_done c.args.answers.now c.args.wanted.now c.loop-i.i c.loop-i.drawn _ c.loop-i-test.false
    c.loop-i.invariant.drawn
