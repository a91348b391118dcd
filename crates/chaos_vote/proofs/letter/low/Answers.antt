use Rattle.std.proofs.Common.{rules, arith}
use Rattle.std.specs.Int.{int_wrap}
use Rattle.std.proofs.lemmas.Int.{ints, to_z-of_z}
use Rattle.chaos_vote.proofs.letter.low.Goals as goal

pub returns : goal.returns
unfolding int_wrap
returns c = grind (arith, ints, to_z-of_z, rules)
