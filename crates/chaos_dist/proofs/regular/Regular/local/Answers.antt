use Rattle.std.proofs.Common.{◌<◌, sym, subst}
use Rattle.chaos_dist.specs.Layout.{length_of, owner_of}
use Rattle.chaos_dist.specs.LayoutLaws.{local_of-is, local_of-below, width_of-some}
use Rattle.chaos_dist.proofs.regular.Regular.local.Goals as goal

pub returns-clause-local : goal.returns-clause-local
returns-clause-local c =
    let s = c.args.self in
    let width = width_of-some s.shape s.extent s.nodes s.some_elements s.some_nodes s.some_size in
    rw (c.width-width.ensures, c.from.ensures)
    (sym (local_of-is s.shape s.extent s.nodes c.args.g s.some_nodes width c.requires.from_one c.requires.within))

pub returns-clause-place : goal.returns-clause-place
returns-clause-place c =
    let s = c.args.self in
    let width = width_of-some s.shape s.extent s.nodes s.some_elements s.some_nodes s.some_size in
    rw (c.width-width.ensures, c.from.ensures)
    (subst (λ k. k < length_of s.shape s.extent s.nodes (owner_of s.shape s.extent s.nodes c.args.g))
    (local_of-is s.shape s.extent s.nodes c.args.g s.some_nodes width c.requires.from_one c.requires.within)
    (local_of-below s.shape s.extent s.nodes c.args.g c.requires.from_one c.requires.within))
