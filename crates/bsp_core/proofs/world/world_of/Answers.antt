use Rattle.bsp_core.specs.Lists.{items_of}
use Rattle.bsp_core.proofs.Starts.{world_begins}
use Rattle.bsp_core.proofs.world.world_of.Goals as goal

pub invariant_of-result : goal.invariant_of-result
invariant_of-result g c =
    let plan = c.requires.together.0 in
    let is = c.requires.together.1 in (
      c.requires.few,
      (
        plan,
        is,
        world_begins g.N.Phased.view (g.N.Phased.rows plan) (g.N.Phased.holds plan) (g.N.Phased.count plan) c.args.nodes.items
            (items_of c.args.sent.items) c.args.taken.items _ (g.met.N.Phased.rows_meet plan is)
            c.requires.sent c.requires.taken c.new.ensures.items c.requires.together.2,
      ),
    )

pub returns-clause-at : goal.returns-clause-at
returns-clause-at g c plan is h =
    world_begins g.N.Phased.view (g.N.Phased.rows plan) (g.N.Phased.holds plan) (g.N.Phased.count plan) c.args.nodes.items
    (items_of c.args.sent.items) c.args.taken.items _ (g.met.N.Phased.rows_meet plan is)
    c.requires.sent c.requires.taken c.new.ensures.items h
