use Rattle.chaos_node.proofs.Committed.{state_recorded, taken_back}
use Rattle.chaos_node.proofs.node.Node.record.Goals as goal

pub returns-in-Ok-clause-ok : goal.returns-in-Ok-clause-ok
returns-in-Ok-clause-ok c =
    state_recorded c.args.begins c.args.execution c.args.line.now c.args.self.now.state c.note.new.self.state c.write_line.new.self.state
    c.in_ok-note.ensures.ok c.in-Ok.ensures.ok

pub returns-in-Err-clause-err : goal.returns-in-Err-clause-err
returns-in-Err-clause-err c =
    taken_back c.args.begins c.args.execution c.args.self.now c.note.new.self c.write_line.new.self c.unnote.new.self c.note.ensures.face
    c.in_ok-note.ensures.ok c.in-Err.ensures.err
    c.unnote.ensures.face c.unnote.ensures.state
