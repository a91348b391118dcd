use Rattle.inspect_places.proofs.Steps.{asks_step, asks_done}
use Rattle.inspect_places.proofs.asks.ask.Goals as goal

pub loop-i-preserved : goal.loop-i-preserved
loop-i-preserved c = asks_step c.args.decomposition c.args.wanted.now c.loop-i.i c.loop-i.lists c.ask_at.new.lists _ c.loop-i-test.true
    c.in_ok-ask_at.ensures c.loop-i.invariant

pub returns : goal.returns
returns c = asks_done c.args.decomposition c.args.wanted.now c.loop-i.i c.loop-i.lists _ c.loop-i-test.false c.loop-i.invariant
