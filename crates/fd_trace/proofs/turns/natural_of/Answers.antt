use Rattle.std.proofs.Common.{arith, rules, ◌∙◌, ap}
use Rattle.std.specs.Int.{w128}
use Rattle.std.specs.Prelude.{FitsSigned}
use Rattle.std.proofs.lemmas.Int.{ints, to_z-of_z}
use lib.IntN.{nat_abs}
use Rattle.fd_trace.proofs.Ways.{natural_abs}
use Rattle.fd_trace.proofs.turns.natural_of.Goals as goal

pub returns-else-number-lt0 : goal.returns-else-number-lt0
returns-else-number-lt0 c =
    let fits : FitsSigned w128 c.args.number = search rules in
    ap nat_abs (to_z-of_z w128 c.args.number fits) ∙ natural_abs c.args.number (omega (arith, ints))
