use Rattle.std.proofs.Common.{ap, ◌∙◌, subst, sym}
use Rattle.bsp_core.specs.Views.{Face, View}
use Rattle.chaos_entering.specs.Coming.{CanStand, face_entered}
use Rattle.chaos_entering.specs.State.{NodeState}
use Rattle.chaos_move.specs.Undoing.{taken_back}
use Rattle.chaos_node.specs.Changing.{change_with, with_parts}
use Rattle.chaos_node.specs.Putting.{put_in_place, recorded}
use Rattle.chaos_node.specs.declared.change.Change.{Change}
use Rattle.chaos_node.proofs.Committed.{state_committed}
use Rattle.chaos_node.proofs.node.Node.put_executed.Goals as goal

pub record-requires : goal.record-requires
record-requires c = c.requires.number

pub put-requires : goal.put-requires
put-requires c =
    subst (λ (f : Face). CanStand f.me f.count c.changes.result.entered) (sym c.record.ensures.face)
    (subst (λ (x : Change). CanStand c.args.self.now.face.me c.args.self.now.face.count x.entered)
    (sym (c.changes.ensures c.no_line-line.ensures)) c.requires)

pub returns-in-Ok-clause-face : goal.returns-in-Ok-clause-face
returns-in-Ok-clause-face c =
    ap (λ (v : View NodeState). v.face) c.keep_undo.ensures ∙ c.put.ensures.face
    ∙ ap (λ (f : Face). face_entered f.me f.count c.changes.result.entered) c.record.ensures.face
    ∙ ap (λ (x : Change). face_entered c.args.self.now.face.me c.args.self.now.face.count x.entered)
    (c.changes.ensures c.no_line-line.ensures)

pub returns-in-Ok-clause-state : goal.returns-in-Ok-clause-state
returns-in-Ok-clause-state c =
    let change = change_with c.args.parts c.args.executed in
    ap (λ (v : View NodeState). v.state) c.keep_undo.ensures
    ∙ state_committed change c.args.self.now.state c.record.new.self.state c.put.new.self.state
    (c.in-Ok.ensures.ok ∙ ap (λ l. recorded change.entered.begins change.entered.at.execution l c.args.self.now.state)
    c.no_line-line.ensures)
    (c.put.ensures.state ∙ ap (λ (x : Change). put_in_place x c.record.new.self.state) (c.changes.ensures c.no_line-line.ensures))

pub returns-in-Err-clause-err : goal.returns-in-Err-clause-err
returns-in-Err-clause-err c =
    c.give_back.ensures ∙ ap (λ (v : View NodeState). with_parts v (taken_back c.args.undo c.args.parts)) c.in-Err.ensures.err

pub returns-in-Err-clause-face : goal.returns-in-Err-clause-face
returns-in-Err-clause-face c = tt

pub returns-in-Err-clause-state : goal.returns-in-Err-clause-state
returns-in-Err-clause-state c = tt

pub returns-in-Ok-clause-err : goal.returns-in-Ok-clause-err
returns-in-Ok-clause-err c = tt
