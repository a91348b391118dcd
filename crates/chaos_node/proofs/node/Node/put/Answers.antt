use Rattle.std.proofs.Common.{ap, ◌∙◌, subst, sym}
use Rattle.bsp_core.specs.Views.{Face}
use Rattle.chaos_entering.specs.Coming.{CanStand, face_entered}
use Rattle.chaos_node.proofs.Committed.{state_put}
use Rattle.chaos_node.proofs.node.Node.put.Goals as goal

pub install-requires : goal.install-requires
install-requires c =
    subst (λ (f : Face). CanStand f.me f.count c.args.change.entered) (sym (c.forget_kept.ensures.face ∙ c.take_changes.ensures.face))
    c.requires

pub returns-clause-face : goal.returns-clause-face
returns-clause-face c = c.install.ensures.face
    ∙ ap (λ (f : Face). face_entered f.me f.count c.args.change.entered) (c.forget_kept.ensures.face
    ∙ c.take_changes.ensures.face)

pub returns-clause-state : goal.returns-clause-state
returns-clause-state c =
    state_put c.args.change c.args.self.now.state c.take_changes.new.self.state c.forget_kept.new.self.state c.install.new.self.state
    c.take_changes.ensures.state
    c.forget_kept.ensures.state c.install.ensures.state
