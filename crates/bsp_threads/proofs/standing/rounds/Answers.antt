use Rattle.bsp_core.specs.Views.{WorksFor}
use Rattle.bsp_threads.proofs.Rounding.{ready_again, none_gone, more_gone}
use Rattle.bsp_threads.proofs.standing.rounds.Goals as goal

pub loop-init : goal.loop-init
loop-init g c = (
  c.requires.ready,
  none_gone g.N.Phased.view (WorksFor g.N.Phased.IsPlan g.N.Phased.count g.N.Phased.rows
      g.N.Phased.holds) c.args.queues.now _ c.requires.ready,
)

pub loop-preserved : goal.loop-preserved
loop-preserved g c = (
  ready_again g.N.Phased.view (WorksFor g.N.Phased.IsPlan g.N.Phased.count g.N.Phased.rows g.N.Phased.holds) c.args.queues.now _ _
      c.round.ensures.gone,
  more_gone g.N.Phased.view (WorksFor g.N.Phased.IsPlan g.N.Phased.count g.N.Phased.rows g.N.Phased.holds) c.args.queues.now _ _ _
      c.loop.invariant.1 c.round.ensures.gone,
)

pub returns-then-ne-clause-gone : goal.returns-then-ne-clause-gone
returns-then-ne-clause-gone g c =
    more_gone g.N.Phased.view (WorksFor g.N.Phased.IsPlan g.N.Phased.count g.N.Phased.rows g.N.Phased.holds) c.args.queues.now _ _ _
    c.loop.invariant.1 c.round.ensures.gone
