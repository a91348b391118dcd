use Rattle.std.proofs.Common.{arith}
use Rattle.chaos_dist.specs.LayoutLaws.{width_of-some}
use Rattle.chaos_dist.proofs.Formulas.{StandsAt-element}
use Rattle.chaos_dist.proofs.regular.Regular.global_of.Goals as goal

pub returns : goal.returns
returns c =
    let s = c.args.self in
    let width = width_of-some s.shape s.extent s.nodes s.some_elements s.some_nodes s.some_size in
    let stands = StandsAt-element s.shape s.extent s.nodes c.args.node c.args.local c.width-width.result c.from-nodes.result
    c.from-at.result s.some_nodes width c.requires.node c.requires.place c.width-width.ensures c.from-nodes.ensures c.from-at.ensures in
    record {
      from_one = omega arith;
      within = stands.within;
      owner = stands.owner;
      local = stands.local;
      element = stands.element;
      only = stands.only;
    }
