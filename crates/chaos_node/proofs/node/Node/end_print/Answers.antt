use Rattle.std.proofs.Common.{subst, ◌-◌}
use Rattle.bsp_core.specs.Views.{View}
use Rattle.chaos_entering.specs.Enters.{EntersNext}
use Rattle.chaos_entering.specs.State.{NodeState}
use Rattle.chaos_node.specs.Kept.{shown_node}
use Rattle.chaos_node.specs.Printed.{is_printed, print_right, still_small}
use Rattle.chaos_node.proofs.Making.{made_by, one_behind, some_inside}
use Rattle.chaos_node.proofs.node.Node.end_print.Goals as goal

pub overflow_sub-self-inside : goal.overflow_sub-self-inside
overflow_sub-self-inside c = some_inside (shown_node c.self.inside) c.args.self.now c.self.view_is c.requires.work

pub enter_next-requires-clause-left : goal.enter_next-requires-clause-left
enter_next-requires-clause-left c = still_small c.self.inside.left c.self.invariant.left

pub returns-clause-made : goal.returns-clause-made
returns-clause-made c =
    made_by (shown_node c.self.inside) c.args.self.now c.between.result.me _ _ c.self.view_is c.between.ensures.is.node
    (one_behind (shown_node c.self.inside) c.args.self.now c.self.view_is c.requires.work) c.in_ok-entered.ensures.made
    c.in_ok-entered.ensures.falls

pub returns-clause-right : goal.returns-clause-right
returns-clause-right c plan t p is less row holds =
    print_right plan t p c.args.self.now c.in_ok-line.line c.between.result c.next_number.result _ c.in_ok-entered.entered is
    (is_printed c.texts_go_on.ensures.prints c.plans_can_print.ensures plan t p c.args.self.now c.in_ok-line.line is less row holds
    c.requires.at c.in_ok-line.ensures)
    c.between.ensures.is c.next_number.ensures
    (one_behind (shown_node c.self.inside) c.args.self.now c.self.view_is c.requires.work)
    (subst (λ (v : View NodeState). EntersNext v.state.session c.between.result v.state.holdings.pages c.next_number.result
    (c.self.inside.left - 1) c.in_ok-entered.entered) c.self.view_is c.in_ok-entered.ensures.right)
