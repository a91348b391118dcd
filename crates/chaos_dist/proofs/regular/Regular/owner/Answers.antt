use Rattle.std.proofs.Common.{sym}
use Rattle.chaos_dist.specs.LayoutLaws.{owner_of-dealt}
use Rattle.chaos_dist.proofs.regular.Regular.owner.Goals as goal

pub returns-clause-owner : goal.returns-clause-owner
returns-clause-owner c =
    let s = c.args.self in
    rw (c.width.ensures, c.from.ensures)
    (sym (owner_of-dealt s.shape s.extent s.nodes c.args.g s.some_nodes c.requires.within c.requires.from_one))
