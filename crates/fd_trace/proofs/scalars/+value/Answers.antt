use Rattle.std.proofs.Common.{◌∙◌, ap, sym}
use Rattle.fd_program.specs.Scalars.{scalar_value}
use Rattle.fd_program.specs.declared.scalar.CheckedScalar as scalar
use Rattle.fd_trace.specs.Sizes.{scalar_faults}
use Rattle.fd_trace.specs.Outcomes.{outcome, opposed, joined_scalars}
use Rattle.fd_trace.proofs.Values.{negate_outcome, binary_outcome, of_same}
use Rattle.fd_trace.proofs.scalars.+value.Goals as goal

pub returns-in-Negate : goal.returns-in-Negate
returns-in-Negate t c =
    let found = λ (s : scalar.CheckedScalar). outcome (scalar_value c.args.variables.now s) (scalar_faults c.args.variables.now s) in
    of_same c.args.variables.now c.args.scalar.now c.oppose.result (scalar.Negate c.in-Negate.at c.in-Negate.inner) c.in-Negate.is
    (c.oppose.ensures ∙ ap opposed (c.value.ensures ∙ ap found c.get.ensures)
    ∙ sym (negate_outcome c.args.variables.now c.in-Negate.at c.in-Negate.inner c.requires))

pub returns-in-Binary : goal.returns-in-Binary
returns-in-Binary t c =
    let found = λ (s : scalar.CheckedScalar). outcome (scalar_value c.args.variables.now s) (scalar_faults c.args.variables.now s) in
    of_same c.args.variables.now c.args.scalar.now c.join.result (scalar.Binary c.in-Binary.op c.in-Binary.at c.in-Binary.left
    c.in-Binary.right) c.in-Binary.is
    (c.join.ensures
    ∙ ap (λ r. joined_scalars c.in-Binary.op c.in-Binary.at r c.value-in-Binary-2.result) (c.value-in-Binary.ensures
    ∙ ap found c.get-in-Binary.ensures)
    ∙ ap (joined_scalars c.in-Binary.op c.in-Binary.at (found c.in-Binary.left))
    (c.value-in-Binary-2.ensures ∙ ap found c.get-in-Binary-2.ensures)
    ∙ sym (binary_outcome c.args.variables.now c.in-Binary.op c.in-Binary.at c.in-Binary.left c.in-Binary.right))
