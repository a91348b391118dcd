use Rattle.std.proofs.Common.{List, map, sym, subst}
use Rattle.bsp_core.specs.Turns.{AreTogether, Begins}
use Rattle.bsp_core.proofs.world.World.new.Goals as goal

pub world_of-requires-clause-together : goal.world_of-requires-clause-together
world_of-requires-clause-together g c =
    subst (λ (z : List _). AreTogether g.N.Phased.view g.N.Phased.IsPlan g.N.Phased.count g.N.Phased.rows g.N.Phased.holds z)
    (sym c.into_vec-nodes.ensures) c.requires.together

pub returns-clause-at : goal.returns-clause-at
returns-clause-at g c plan is h =
    c.world_of.ensures.at plan is
    (subst (λ (z : List _). Begins (g.N.Phased.rows plan) (g.N.Phased.holds plan) (g.N.Phased.count plan) (map g.N.Phased.view z))
    (sym c.into_vec-nodes.ensures) h)
