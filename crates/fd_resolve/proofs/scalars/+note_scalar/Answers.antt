use Rattle.std.proofs.Common.{◌∙◌, ◌++◌, ap, refl}
use Rattle.fd_syntax.specs.declared.scalar.Scalar as scalar
use Rattle.fd_scope.proofs.Trees.{ok_noted}
use Rattle.fd_resolve.specs.Resolve.{scalar_unknowns, scalar_unknowns-Negate, scalar_unknowns-Binary}
use Rattle.fd_resolve.proofs.Trees.{appended_one, appended_two}
use Rattle.fd_resolve.proofs.scalars.+note_scalar.Goals as goal

pub returns-in-Negate : goal.returns-in-Negate
returns-in-Negate t c =
    let f = λ (s : scalar.Scalar). scalar_unknowns c.args.head.now c.args.around.now s in
    record {
      noted = ok_noted c.note_scalar.result c.note_scalar.new.faults (c.args.faults.now ++ f c.get.result.now) _
          (appended_one f c.args.scalar.now c.in-Negate.inner c.get.result.now c.args.faults.now (c.args.faults.now ++ f c.get.result.now)
          c.get.ensures
          (ap f c.in-Negate.is ∙ scalar_unknowns-Negate c.args.head.now c.args.around.now c.in-Negate.at c.in-Negate.inner) refl)
          c.note_scalar.ensures.noted;
    }

pub returns-in_ok-note_scalar-in-Binary : goal.returns-in_ok-note_scalar-in-Binary
returns-in_ok-note_scalar-in-Binary t c =
    let f = λ (s : scalar.Scalar). scalar_unknowns c.args.head.now c.args.around.now s in
    record {
      noted = ok_noted c.note_scalar-in-Binary-2.result c.note_scalar-in-Binary-2.new.faults (c.note_scalar-in-Binary.new.faults
          ++ f c.get-in-Binary-2.result.now) _
          (appended_two f c.args.scalar.now c.in-Binary.left c.in-Binary.right c.get-in-Binary.result.now c.get-in-Binary-2.result.now
          c.args.faults.now c.note_scalar-in-Binary.new.faults
          (c.note_scalar-in-Binary.new.faults ++ f c.get-in-Binary-2.result.now) c.get-in-Binary.ensures c.get-in-Binary-2.ensures
          (ap f c.in-Binary.is ∙ scalar_unknowns-Binary c.args.head.now c.args.around.now c.in-Binary.op c.in-Binary.at c.in-Binary.left
          c.in-Binary.right)
          c.in_ok-note_scalar-in-Binary.ensures.noted refl)
          c.note_scalar-in-Binary-2.ensures.noted;
    }
