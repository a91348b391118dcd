use Rattle.std.proofs.Common.{◌∙◌, ap, sym}
use Rattle.fd_syntax.specs.declared.scalar.Scalar as scalar
use Rattle.fd_program.specs.declared.scalar.CheckedScalar as checked
use Rattle.fd_scope.proofs.Trees.{ok_value}
use Rattle.fd_resolve.specs.Resolve.{resolved_scalar, resolved_scalar-Negate, resolved_scalar-Binary}
use Rattle.fd_resolve.proofs.scalars.+resolve.Goals as goal

pub returns-in_ok-inner-in-Negate : goal.returns-in_ok-inner-in-Negate
returns-in_ok-inner-in-Negate t c =
    let f = λ (s : scalar.Scalar). resolved_scalar c.args.head.now c.args.around.now s in
    ok_value c.negate.result (checked.Negate c.in-Negate.at c.in_ok-inner-in-Negate.inner) (f c.args.scalar.now)
    (ap (checked.Negate c.in-Negate.at) (c.in_ok-inner-in-Negate.ensures ∙ ap f c.get.ensures)
    ∙ sym (resolved_scalar-Negate c.args.head.now c.args.around.now c.in-Negate.at c.in-Negate.inner) ∙ ap f (sym c.in-Negate.is))
    c.negate.ensures

pub returns-in_ok-right-in-Binary : goal.returns-in_ok-right-in-Binary
returns-in_ok-right-in-Binary t c =
    let f = λ (s : scalar.Scalar). resolved_scalar c.args.head.now c.args.around.now s in
    ok_value c.join.result (checked.Binary c.in-Binary.op c.in-Binary.at c.in_ok-left-in-Binary.left c.in_ok-right-in-Binary.right)
    (f c.args.scalar.now)
    (ap (λ l. checked.Binary c.in-Binary.op c.in-Binary.at l c.in_ok-right-in-Binary.right) (c.in_ok-left-in-Binary.ensures
    ∙ ap f c.get-in-Binary.ensures)
    ∙ ap (checked.Binary c.in-Binary.op c.in-Binary.at (f c.in-Binary.left)) (c.in_ok-right-in-Binary.ensures
    ∙ ap f c.get-in-Binary-2.ensures)
    ∙ sym (resolved_scalar-Binary c.args.head.now c.args.around.now c.in-Binary.op c.in-Binary.at c.in-Binary.left c.in-Binary.right)
    ∙ ap f (sym c.in-Binary.is))
    c.join.ensures
