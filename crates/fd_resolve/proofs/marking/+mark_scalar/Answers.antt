use Rattle.std.proofs.Common.{◌∙◌, ◌++◌, ap, refl}
use Rattle.fd_syntax.specs.declared.scalar.Scalar as scalar
use Rattle.fd_scope.proofs.Trees.{ok_noted}
use Rattle.fd_resolve.specs.declared.marks.Mark.TheVariants as mark
use Rattle.fd_resolve.specs.Resolve.{scalar_marks, scalar_marks-Negate, scalar_marks-Binary}
use Rattle.fd_resolve.proofs.Trees.{headed_one, headed_two}
use Rattle.fd_resolve.proofs.marking.+mark_scalar.Goals as goal

pub returns-in_ok-push-in-Negate : goal.returns-in_ok-push-in-Negate
returns-in_ok-push-in-Negate t c =
    let f = λ (s : scalar.Scalar). scalar_marks c.args.head.now c.args.around.now s in
    ok_noted c.mark_scalar.result c.mark_scalar.new.marks (c.push-in-Negate.new.marks ++ f c.get.result.now) _
    (headed_one f mark.Negate c.args.scalar.now c.in-Negate.inner c.get.result.now c.args.marks.now c.push-in-Negate.new.marks
    (c.push-in-Negate.new.marks ++ f c.get.result.now) c.get.ensures
    (ap f c.in-Negate.is ∙ scalar_marks-Negate c.args.head.now c.args.around.now c.in-Negate.at c.in-Negate.inner)
    c.in_ok-push-in-Negate.ensures refl)
    c.mark_scalar.ensures

pub returns-in_ok-mark_scalar-in-Binary : goal.returns-in_ok-mark_scalar-in-Binary
returns-in_ok-mark_scalar-in-Binary t c =
    let f = λ (s : scalar.Scalar). scalar_marks c.args.head.now c.args.around.now s in
    ok_noted c.mark_scalar-in-Binary-2.result c.mark_scalar-in-Binary-2.new.marks (c.mark_scalar-in-Binary.new.marks
    ++ f c.get-in-Binary-2.result.now) _
    (headed_two f (mark.Binary c.in-Binary.op) c.args.scalar.now c.in-Binary.left c.in-Binary.right c.get-in-Binary.result.now
    c.get-in-Binary-2.result.now c.args.marks.now c.push-in-Binary.new.marks
    c.mark_scalar-in-Binary.new.marks (c.mark_scalar-in-Binary.new.marks ++ f c.get-in-Binary-2.result.now) c.get-in-Binary.ensures
    c.get-in-Binary-2.ensures
    (ap f c.in-Binary.is ∙ scalar_marks-Binary c.args.head.now c.args.around.now c.in-Binary.op c.in-Binary.at c.in-Binary.left
    c.in-Binary.right)
    c.in_ok-push-in-Binary.ensures c.in_ok-mark_scalar-in-Binary.ensures refl)
    c.mark_scalar-in-Binary-2.ensures
