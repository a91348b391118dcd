use Rattle.std.proofs.Common.{◌≡◌, ◌≤◌, pos, ◌≤ℤ◌, arith, ap, ◌∙◌, to_z, of_z}
use Rattle.std.specs.Int.{w128}
use Rattle.std.proofs.lemmas.Int.{ints}
use Rattle.fd_program.specs.Stores.{array_at}
use Rattle.fd_program.specs.declared.array.ArrayFacts.{ArrayFacts}
use Rattle.std.specs.Prelude.{List}
use Rattle.fd_program.specs.Met.{layout_for}
use Rattle.inspect_uses.specs.Standing.{standing, natural_bounds}
use Rattle.inspect_uses.proofs.places.stands_at.Goals as goal

pub natural-requires-clause-high : goal.natural-requires-clause-high
natural-requires-clause-high c =
    let s = standing c.args.facts.now c.requires.accepted c.args.used c.requires.met in
    let offset : c.offset-offset.result ≡ (array_at c.args.facts.now.arrays c.args.used.array).offset =
    c.offset-offset.ensures ∙ ap (λ (arrays : List ArrayFacts). (array_at arrays c.args.used.array).offset) c.as_slice.ensures in
    omega (arith, ints, c.moved.ensures, offset, s.last, s.most, s.subscript_first, s.subscript_last)

bounds : (c : goal.After-natural) → (1 ≤ c.natural.result) × (c.natural.result ≤ (layout_for c.args.facts.now c.args.used.array).extent)
bounds c =
    let s = standing c.args.facts.now c.requires.accepted c.args.used c.requires.met in
    let offset : c.offset-offset.result ≡ (array_at c.args.facts.now.arrays c.args.used.array).offset =
    c.offset-offset.ensures ∙ ap (λ (arrays : List ArrayFacts). (array_at arrays c.args.used.array).offset) c.as_slice.ensures in
    let low : pos 1 ≤ℤ to_z w128 (of_z w128 c.moved.result) = omega (
      arith,
      ints,
      c.moved.ensures,
      offset,
      s.first,
      s.last,
      s.most,
      s.subscript_first,
      s.subscript_last,
    ) in
    let high : to_z w128 (of_z w128 c.moved.result) ≤ℤ pos (layout_for c.args.facts.now c.args.used.array).extent =
    omega (arith, ints, c.moved.ensures, offset, s.first, s.last, s.most, s.subscript_first, s.subscript_last) in
    let within = natural_bounds (to_z w128 (of_z w128 c.moved.result)) (layout_for c.args.facts.now c.args.used.array).extent low high in
    (omega (arith, c.natural.ensures, within.0), omega (arith, c.natural.ensures, within.1))

pub returns-clause-from_one : goal.returns-clause-from_one
returns-clause-from_one c = (bounds c).0

pub returns-clause-within : goal.returns-clause-within
returns-clause-within c = (bounds c).1
