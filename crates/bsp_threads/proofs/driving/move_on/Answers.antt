use Rattle.std.proofs.Common.{◌<◌, ◌+◌, ℕ, arith, subst, Err}
use Rattle.bsp_core.specs.Views.{WorksFor}
use Rattle.bsp_threads.specs.Drives.{HasWaited}
use Rattle.bsp_threads.proofs.Acting.{sets_out, moves_on, then_moved, waits_on, ends_at, waits_not}
use Rattle.bsp_threads.proofs.driving.move_on.Goals as goal

pub loop-init : goal.loop-init
loop-init g c = (
  (omega arith),
  sets_out g.N.Phased.view (WorksFor g.N.Phased.IsPlan g.N.Phased.count g.N.Phased.rows g.N.Phased.holds) _
      _ c.requires.ready,
)

pub loop-preserved-in-Ok-Moved : goal.loop-preserved-in-Ok-Moved
loop-preserved-in-Ok-Moved g c = (
  (omega arith),
  moves_on g.N.Phased.view (WorksFor g.N.Phased.IsPlan g.N.Phased.count g.N.Phased.rows g.N.Phased.holds) c.args.queues.now
      c.args.seat.now c.loop.seat c.step.new.self c.loop.polls
      c.loop.invariant.1 c.step.ensures.ready (rw c.in-Ok-Moved.field-0-is at c.in-Ok-Moved.ensures.stepped),
)

pub loop-preserved : goal.loop-preserved
loop-preserved g c =
    let less : c.loop.polls + 1 < 65536 = let a = c.loop.invariant.0 in let b = c.if-polls-eq-LIMIT.false in omega arith in (
      less,
      waits_on g.N.Phased.view (WorksFor g.N.Phased.IsPlan g.N.Phased.count g.N.Phased.rows g.N.Phased.holds) c.args.queues.now
          c.args.seat.now c.loop.seat c.step.new.self c.loop.polls
          c.loop.invariant.1 c.step.ensures.ready (rw c.in-Ok-Empty.field-0-is at c.in-Ok-Empty.ensures.stepped),
    )

pub returns-then-polls-eq-LIMIT-clause-done : goal.returns-then-polls-eq-LIMIT-clause-done
returns-then-polls-eq-LIMIT-clause-done g c =
    let polled = rw c.in-Ok-Empty.field-0-is at c.in-Ok-Empty.ensures.stepped in
    then_moved g.N.Phased.view (WorksFor g.N.Phased.IsPlan g.N.Phased.count g.N.Phased.rows g.N.Phased.holds) c.args.seat.now c.loop.seat
    c.step.new.self c.loop.invariant.1.moved polled.moved

pub returns-then-polls-eq-LIMIT-clause-waited : goal.returns-then-polls-eq-LIMIT-clause-waited
returns-then-polls-eq-LIMIT-clause-waited g c =
    let view = g.N.Phased.view in
    let works = WorksFor g.N.Phased.IsPlan g.N.Phased.count g.N.Phased.rows g.N.Phased.holds in
    let n = c.loop.polls in
    let way = waits_on view works c.args.queues.now c.args.seat.now c.loop.seat c.step.new.self n c.loop.invariant.1 c.step.ensures.ready
    (rw c.in-Ok-Empty.field-0-is at c.in-Ok-Empty.ensures.stepped) in
    subst (λ (k : ℕ). HasWaited view c.args.seat.now c.step.new.self k) c.if-polls-eq-LIMIT.true
    (waits_not view works c.args.seat.now c.step.new.self (n + 1) (omega arith) way.polled)

pub returns-in-Err-clause-done : goal.returns-in-Err-clause-done
returns-in-Err-clause-done g c =
    ends_at g.N.Phased.view (WorksFor g.N.Phased.IsPlan g.N.Phased.count g.N.Phased.rows g.N.Phased.holds) c.args.seat.now c.loop.seat
    c.step.new.self (Err c.in-Err.fault) c.loop.invariant.1.moved c.in-Err.ensures.stepped
