use Rattle.std.proofs.Common.{◌≡◌, ◌-ℤ◌, unsigned_abs, arith}
use Rattle.std.proofs.lemmas.Int.{to_z-of_z}
use Rattle.chaos_part.proofs.Blocks.{provisional_is}
use Rattle.chaos_part.proofs.provisional.provisional_home.Goals as goal

pub returns-clause-home : goal.returns-clause-home
returns-clause-home c =
    let before : c.from-before.result ≡ unsigned_abs (c.args.i -ℤ c.args.low) = grind (
      arith,
      to_z-of_z,
      c.from-before.ensures,
      c.abs_diff.ensures,
    ) in
    let last : c.from-last.result ≡ unsigned_abs (c.args.high -ℤ c.args.low) = grind (
      arith,
      to_z-of_z,
      c.from-last.ensures,
      c.abs_diff-2.ensures,
    ) in
    provisional_is c.args.low c.args.high c.args.i c.args.nodes _ _ _ c.requires.some c.requires.from c.requires.to before last
    c.from.ensures
