use Rattle.std.proofs.Common.{rules, ◌<◌, ◌^◌, refl}
use Rattle.chaos_dist.specs.LayoutLaws.{width_of-some}
use Rattle.chaos_dist.proofs.Formulas.{StaysBelow-element}
use Rattle.chaos_dist.proofs.regular.Regular.stays_below.Goals as goal

pub returns : goal.returns
returns c =
    let s = c.args.self in
    let small : s.extent < 2 ^ 64 = search rules in
    let width = width_of-some s.shape s.extent s.nodes s.some_elements s.some_nodes s.some_size in
    StaysBelow-element s.shape s.extent s.nodes c.args.node c.args.local c.args.width c.args.nodes c.args.node s.some_nodes width
    c.requires.node c.requires.place c.requires.width c.requires.nodes refl (2 ^ 64) small
