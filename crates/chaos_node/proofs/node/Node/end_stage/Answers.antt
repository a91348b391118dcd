use Rattle.std.specs.Prelude.{◌≡◌, map}
use Rattle.std.proofs.Common.{ap, ◌∙◌, sym, subst}
use Rattle.bsp_core.specs.Views.{View}
use Rattle.chaos_entering.specs.State.{NodeState}
use Rattle.chaos_entering.specs.declared.activity.Activity.TheVariants as activity
use Rattle.plan_walk.specs.Letters.{numbers_of, put_in}
use Rattle.chaos_node.specs.Kept.{shown_node}
use Rattle.chaos_node.specs.Moves.{EndsStage}
use Rattle.chaos_node.proofs.MoveComes.{copy_ends}
use Rattle.chaos_node.proofs.node.Node.end_stage.Goals as goal

pub go_on_moving-requires-clause-ends : goal.go_on_moving-requires-clause-ends
go_on_moving-requires-clause-ends c =
    subst (λ x. EndsStage x c.incoming.new.self) c.self.view_is
    (copy_ends (shown_node c.self.inside) c.in_ok-moving.moving c.incoming.new.self c.args.moving.now c.in_ok-taken.taken
    (subst (λ (x : View NodeState). x.state.at.activity ≡ activity.Moving c.args.moving.now) (sym c.self.view_is) c.requires.at)
    c.in_ok-moving.ensures
    (c.in_ok-taken.ensures ∙ ap (λ got. put_in c.self.inside.me c.self.inside.at.own (map numbers_of got)) c.as_slice.ensures.value)
    c.in_ok-incoming.ensures.share c.in_ok-incoming.ensures.form c.in_ok-incoming.ensures.stages c.in_ok-incoming.ensures.moving)

pub moved-requires-clause-ends : goal.moved-requires-clause-ends
moved-requires-clause-ends c =
    subst (λ x. EndsStage x c.incoming.new.self) c.self.view_is
    (copy_ends (shown_node c.self.inside) c.in_ok-moving.moving c.incoming.new.self c.args.moving.now c.in_ok-taken.taken
    (subst (λ (x : View NodeState). x.state.at.activity ≡ activity.Moving c.args.moving.now) (sym c.self.view_is) c.requires.at)
    c.in_ok-moving.ensures
    (c.in_ok-taken.ensures ∙ ap (λ got. put_in c.self.inside.me c.self.inside.at.own (map numbers_of got)) c.as_slice.ensures.value)
    c.in_ok-incoming.ensures.share c.in_ok-incoming.ensures.form c.in_ok-incoming.ensures.stages c.in_ok-incoming.ensures.moving)
