use Rattle.std.proofs.Common.{ap, subst, ◌-◌}
use Rattle.bsp_core.specs.Views.{View}
use Rattle.chaos_entering.specs.Enters.{EntersOutput}
use Rattle.chaos_entering.specs.State.{NodeState}
use Rattle.chaos_node.specs.Kept.{shown_node}
use Rattle.chaos_node.specs.Printed.{is_put_out, output_right, still_small}
use Rattle.chaos_node.proofs.Making.{made_by, one_behind, some_inside}
use Rattle.chaos_node.proofs.node.Node.end_output.Goals as goal

pub overflow_sub-self-inside : goal.overflow_sub-self-inside
overflow_sub-self-inside c = some_inside (shown_node c.self.inside) c.args.self.now c.self.view_is c.requires.work

pub enter_output-requires : goal.enter_output-requires
enter_output-requires c = record { left = still_small c.self.inside.left c.self.invariant.left }

pub returns-clause-made : goal.returns-clause-made
returns-clause-made c =
    made_by (shown_node c.self.inside) c.args.self.now c.self.inside.me _ _ c.self.view_is
    (ap (λ (v : View NodeState). v.face.me) c.self.view_is)
    (one_behind (shown_node c.self.inside) c.args.self.now c.self.view_is c.requires.work) c.in_ok-entered.ensures.made
    c.in_ok-entered.ensures.falls

pub returns-clause-right : goal.returns-clause-right
returns-clause-right c plan t p is less row holds =
    output_right plan t p c.args.number c.args.self.now c.in_ok-line.line c.number_after.result _ c.in_ok-entered.entered is
    (is_put_out c.texts_go_on.ensures.outputs c.plans_can_print.ensures plan t p c.args.number c.args.self.now c.in_ok-line.line is less
    row holds c.requires.at c.in_ok-line.ensures)
    c.number_after.ensures
    (one_behind (shown_node c.self.inside) c.args.self.now c.self.view_is c.requires.work)
    (subst (λ (v : View NodeState). EntersOutput v.state.session v.face.me c.number_after.result v.state.holdings.elements
    v.state.holdings.parts (c.self.inside.left - 1) c.in_ok-entered.entered) c.self.view_is c.in_ok-entered.ensures.right)
