use Rattle.std.proofs.Common.{arith}
use Rattle.chaos_engine.proofs.Begun.{begins, begun_more}
use Rattle.chaos_engine.proofs.turns.nodes_of.Goals as goal

pub loop-id-preserved : goal.loop-id-preserved
loop-id-preserved c =
    begun_more c.args.session.now c.args.store.now c.loop-id.nodes c.push.new.self c.loop-id.id c.in_ok-own.own c.in_ok-start.field-0
    c.loop-id.invariant.0 c.loop-id.invariant.1
    c.in_ok-own.ensures c.in_ok-start.ensures c.in_ok-push.ensures.ok

pub returns : goal.returns
returns c =
    begins c.args.session.now c.args.store.now c.loop-id.nodes (omega (
      arith,
      c.loop-id.invariant.0,
      c.loop-id-test.false,
      c.loop-id.auto.id-end,
    )) c.loop-id.invariant.1
