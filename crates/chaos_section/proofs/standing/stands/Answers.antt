use Rattle.std.proofs.Common.{◌≡◌, ◌+ℤ◌, to_z, of_z, ap, ◌∙◌, arith}
use Rattle.std.specs.Int.{w128}
use Rattle.std.proofs.lemmas.Int.{ints}
use Rattle.chaos_dist.specs.Homes.{natural}
use Rattle.chaos_section.specs.Sections.{shift_of}
use Rattle.chaos_section.proofs.Numbers.{natural_bounds}
use Rattle.chaos_section.proofs.standing.stands.Goals as goal

pub natural-requires-clause-high : goal.natural-requires-clause-high
natural-requires-clause-high c =
    let r = c.args.reference in
    let reaching = c.requires.reference.reaching c.args.i c.requires.from c.requires.to in
    let sum : to_z w128 (of_z w128 (to_z w128 (of_z w128 c.from.result) +ℤ to_z w128 (of_z w128 c.shift.result)))
    ≡ (c.args.i +ℤ shift_of r) =
    omega (arith, ints, c.shift.ensures.shift) in
    omega (arith, ints, sum, reaching.last, c.requires.reference.extent)

pub returns-clause-from_one : goal.returns-clause-from_one
returns-clause-from_one c =
    let r = c.args.reference in
    let reaching = c.requires.reference.reaching c.args.i c.requires.from c.requires.to in
    let sum : to_z w128 (of_z w128 (to_z w128 (of_z w128 c.from.result) +ℤ to_z w128 (of_z w128 c.shift.result)))
    ≡ (c.args.i +ℤ shift_of r) =
    omega (arith, ints, c.shift.ensures.shift) in
    let is : c.natural.result ≡ natural (c.args.i +ℤ shift_of r) = c.natural.ensures ∙ ap natural sum in
    let bounds = natural_bounds (c.args.i +ℤ shift_of r) r.extent reaching.first reaching.last in
    omega (arith, is, bounds.0)

pub returns-clause-within : goal.returns-clause-within
returns-clause-within c =
    let r = c.args.reference in
    let reaching = c.requires.reference.reaching c.args.i c.requires.from c.requires.to in
    let sum : to_z w128 (of_z w128 (to_z w128 (of_z w128 c.from.result) +ℤ to_z w128 (of_z w128 c.shift.result)))
    ≡ (c.args.i +ℤ shift_of r) =
    omega (arith, ints, c.shift.ensures.shift) in
    let is : c.natural.result ≡ natural (c.args.i +ℤ shift_of r) = c.natural.ensures ∙ ap natural sum in
    let bounds = natural_bounds (c.args.i +ℤ shift_of r) r.extent reaching.first reaching.last in
    omega (arith, is, bounds.1)
