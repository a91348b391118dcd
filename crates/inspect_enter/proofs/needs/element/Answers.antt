use Rattle.std.proofs.Common.{◌≡◌, ◌≤◌, ℤ, pos, ◌≤ℤ◌, arith, to_z, of_z}
use Rattle.std.specs.Int.{w128}
use Rattle.std.proofs.lemmas.Int.{ints}
use Rattle.inspect_uses.specs.Standing.{standing}
use Rattle.inspect_enter.proofs.needs.element.Goals as goal

pub overflow_cast-result : goal.overflow_cast-result
overflow_cast-result c =
    let s = standing c.args.facts.now c.requires.accepted c.args.placed.used c.requires.kept.met in
    omega (arith, ints, s.subscript_first, s.subscript_last)

pub returns-clause-small : goal.returns-clause-small
returns-clause-small c =
    let s = standing c.args.facts.now c.requires.accepted c.args.placed.used c.requires.kept.met in
    omega (arith, ints, s.subscript_first, s.subscript_last)
