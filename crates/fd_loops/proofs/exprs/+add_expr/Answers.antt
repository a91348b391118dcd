use Rattle.fd_program.specs.declared.body.CheckedExpr as checked
use Rattle.fd_scope.proofs.Trees.{ok_value}
use Rattle.fd_loops.proofs.Parts.{negated_draft, negated_faults, negated_value, binary_draft, binary_faults, binary_value}
use Rattle.fd_resolve.proofs.Trees.{always}
use Rattle.fd_loops.proofs.exprs.+add_expr.Goals as goal

pub returns-in_ok-inner-in-Negate-clause-draft : goal.returns-in_ok-inner-in-Negate-clause-draft
returns-in_ok-inner-in-Negate-clause-draft t c =
    always c.negate.result _
    (negated_draft c.args.head.now c.args.around.now c.args.index c.args.draft.now c.add_expr.new.draft c.args.expr.now c.in-Negate.inner
    c.get.result.now
    c.in-Negate.is c.get.ensures c.in_ok-inner-in-Negate.ensures.draft)

pub returns-in_ok-inner-in-Negate-clause-noted : goal.returns-in_ok-inner-in-Negate-clause-noted
returns-in_ok-inner-in-Negate-clause-noted t c =
    always c.negate.result _
    (negated_faults c.args.head.now c.args.around.now c.args.index c.args.draft.now c.args.faults.now c.add_expr.new.faults
    c.args.expr.now c.in-Negate.inner c.get.result.now
    c.in-Negate.is c.get.ensures c.in_ok-inner-in-Negate.ensures.noted)

pub returns-in_ok-inner-in-Negate-clause-value : goal.returns-in_ok-inner-in-Negate-clause-value
returns-in_ok-inner-in-Negate-clause-value t c =
    ok_value c.negate.result (checked.Negate c.in_ok-inner-in-Negate.inner) _
    (negated_value c.args.head.now c.args.around.now c.args.index c.args.draft.now c.in_ok-inner-in-Negate.inner c.args.expr.now
    c.in-Negate.inner c.get.result.now
    c.in-Negate.is c.get.ensures c.in_ok-inner-in-Negate.ensures.value) c.negate.ensures

pub returns-in_ok-right-in-Binary-clause-draft : goal.returns-in_ok-right-in-Binary-clause-draft
returns-in_ok-right-in-Binary-clause-draft t c =
    always c.join.result _
    (binary_draft c.args.head.now c.args.around.now c.args.index c.in-Binary.op c.args.draft.now c.add_expr-in-Binary.new.draft
    c.add_expr-in-Binary-2.new.draft c.args.expr.now
    c.in-Binary.left c.in-Binary.right c.get-in-Binary.result.now c.get-in-Binary-2.result.now
    c.in-Binary.is c.get-in-Binary.ensures c.get-in-Binary-2.ensures c.in_ok-left-in-Binary.ensures.draft
    c.in_ok-right-in-Binary.ensures.draft)

pub returns-in_ok-right-in-Binary-clause-noted : goal.returns-in_ok-right-in-Binary-clause-noted
returns-in_ok-right-in-Binary-clause-noted t c =
    always c.join.result _
    (binary_faults c.args.head.now c.args.around.now c.args.index c.in-Binary.op c.args.draft.now c.add_expr-in-Binary.new.draft
    c.args.faults.now c.add_expr-in-Binary.new.faults c.add_expr-in-Binary-2.new.faults c.args.expr.now
    c.in-Binary.left c.in-Binary.right c.get-in-Binary.result.now c.get-in-Binary-2.result.now
    c.in-Binary.is c.get-in-Binary.ensures c.get-in-Binary-2.ensures c.in_ok-left-in-Binary.ensures.draft
    c.in_ok-left-in-Binary.ensures.noted c.in_ok-right-in-Binary.ensures.noted)

pub returns-in_ok-right-in-Binary-clause-value : goal.returns-in_ok-right-in-Binary-clause-value
returns-in_ok-right-in-Binary-clause-value t c =
    ok_value c.join.result (checked.Binary c.in-Binary.op c.in_ok-left-in-Binary.left c.in_ok-right-in-Binary.right) _
    (binary_value c.args.head.now c.args.around.now c.args.index c.in-Binary.op c.args.draft.now c.add_expr-in-Binary.new.draft
    c.in_ok-left-in-Binary.left c.in_ok-right-in-Binary.right c.args.expr.now
    c.in-Binary.left c.in-Binary.right c.get-in-Binary.result.now c.get-in-Binary-2.result.now
    c.in-Binary.is c.get-in-Binary.ensures c.get-in-Binary-2.ensures c.in_ok-left-in-Binary.ensures.draft
    c.in_ok-left-in-Binary.ensures.value c.in_ok-right-in-Binary.ensures.value) c.join.ensures
