use Rattle.std.proofs.Common.{rules, arith}
use Rattle.std.proofs.lemmas.Int.{to_z-of_z}
use Rattle.fd_program.specs.ValueLaws.{binary_is}
use Rattle.fd_program.specs.Values.{read_in, value_of-Negate}
use Rattle.fd_meaning.proofs.values.+evaluate.Goals as goal

pub returns-in-Negate : goal.returns-in-Negate
returns-in-Negate t c = grind (arith, to_z-of_z, value_of-Negate)

pub returns-in-Binary : goal.returns-in-Binary
returns-in-Binary t c =
    binary_is (read_in c.args.store.now c.args.uses.now) c.args.terms.now c.args.i (search rules)
    c.in-Binary.op c.in-Binary.left c.in-Binary.right c.get-in-Binary.ensures c.get-in-Binary-2.ensures c.evaluate-in-Binary.ensures
    c.evaluate-in-Binary-2.ensures c.apply.ensures c.in-Binary.is (search rules) (search rules) (search rules)
