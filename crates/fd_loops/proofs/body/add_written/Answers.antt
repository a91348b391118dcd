use Rattle.fd_loops.specs.Bodies.{with_body}
use Rattle.fd_scope.proofs.Trees.{ok_noted}
use Rattle.fd_resolve.proofs.Trees.{always}
use Rattle.fd_loops.proofs.Written.{written_draft, written_noted}
use Rattle.fd_loops.proofs.body.add_written.Goals as goal

pub returns-clause-draft : goal.returns-clause-draft
returns-clause-draft c =
    ok_noted c.push_statement.result c.push_statement.new.draft (with_body c.add_expr.new.draft c.statement_of.result) _
    (written_draft c.args.head.now c.args.around.now c.args.index c.args.operator c.args.target.now c.args.value.now c.args.draft.now
    c.add_target.new.self c.add_element.new.draft c.add_expr.new.draft
    c.in_ok-number.number c.in_ok-value.value c.statement_of.result
    c.in_ok-add_target.ensures c.in_ok-number.ensures.draft c.in_ok-value.ensures.draft c.in_ok-number.ensures.number
    c.in_ok-value.ensures.value c.statement_of.ensures)
    c.push_statement.ensures

pub returns-clause-noted : goal.returns-clause-noted
returns-clause-noted c =
    always c.push_statement.result _
    (written_noted c.args.head.now c.args.around.now c.args.index c.args.operator c.args.target.now c.args.value.now c.args.draft.now
    c.add_target.new.self c.add_element.new.draft
    c.as_slice.result.now c.args.faults.now c.note_not_plain.new.faults c.note_clash.new.faults c.add_element.new.faults
    c.add_expr.new.faults
    c.in_ok-add_target.ensures c.in_ok-number.ensures.draft c.as_slice.ensures
    c.in_ok-note_not_plain.ensures.noted c.in_ok-note_clash.ensures.noted c.in_ok-number.ensures.noted c.in_ok-value.ensures.noted)
