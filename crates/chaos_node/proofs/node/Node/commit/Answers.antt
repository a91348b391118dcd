use Rattle.std.proofs.Common.{ap, ◌∙◌, subst, sym}
use Rattle.bsp_core.specs.Views.{Face}
use Rattle.chaos_entering.specs.Coming.{CanStand, face_entered}
use Rattle.chaos_node.proofs.Committed.{state_committed}
use Rattle.chaos_node.proofs.node.Node.commit.Goals as goal

pub record-requires : goal.record-requires
record-requires c = c.requires.stands.number

pub put-requires : goal.put-requires
put-requires c = subst (λ (f : Face). CanStand f.me f.count c.args.change.entered) (sym c.record.ensures.face) c.requires.stands

pub returns-in-Ok-clause-face : goal.returns-in-Ok-clause-face
returns-in-Ok-clause-face c = c.put.ensures.face ∙ ap (λ (f : Face). face_entered f.me f.count c.args.change.entered) c.record.ensures.face

pub returns-in-Ok-clause-state : goal.returns-in-Ok-clause-state
returns-in-Ok-clause-state c =
    state_committed c.args.change c.args.self.now.state c.record.new.self.state c.put.new.self.state c.in-Ok.ensures.ok c.put.ensures.state

pub returns-in-Err-clause-err : goal.returns-in-Err-clause-err
returns-in-Err-clause-err c = c.in-Err.ensures.err

pub returns-in-Err-clause-face : goal.returns-in-Err-clause-face
returns-in-Err-clause-face c = tt

pub returns-in-Err-clause-state : goal.returns-in-Err-clause-state
returns-in-Err-clause-state c = tt

pub returns-in-Ok-clause-err : goal.returns-in-Ok-clause-err
returns-in-Ok-clause-err c = tt
