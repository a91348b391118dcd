use Rattle.std.proofs.Common.{arith}
use Rattle.chaos_dist.specs.Layout.{owner_of}
use Rattle.chaos_dist.specs.LayoutLaws.{length_of-le}
use Rattle.chaos_section.proofs.standing.local.Goals as goal

pub returns-clause-small : goal.returns-clause-small
returns-clause-small c =
    let s = c.layout.result in
    let few = length_of-le s.shape s.extent s.nodes (owner_of s.shape s.extent s.nodes c.stands-stands.result) in
    omega (arith, c.local.ensures.place, few, c.layout.ensures.extent, c.requires.reference.extent)
