use Rattle.std.specs.Prelude.{◌-◌}
use Rattle.std.proofs.Common.{sym, subst}
use Rattle.chaos_holdings.specs.declared.effect.Effect.TheVariants.{Nothing}
use Rattle.chaos_entering.specs.Enters.{EntersMove}
use Rattle.chaos_node.specs.Kept.{shown_node}
use Rattle.chaos_node.specs.Moves.{EndsStage}
use Rattle.chaos_node.specs.Printed.{one_back, still_small}
use Rattle.chaos_node.proofs.MoveGoesOn.{move_goes_on}
use Rattle.chaos_node.proofs.Seen.{has_left, less_made, no_line, right_seen}
use Rattle.chaos_node.proofs.node.Node.go_on_moving.Goals as goal

pub overflow_sub-self-inside : goal.overflow_sub-self-inside
overflow_sub-self-inside c = has_left c.self.inside c.args.self.now c.self.view_is c.requires.work

pub enter_move-requires : goal.enter_move-requires
enter_move-requires c = record { left = still_small c.self.inside.left c.self.invariant.left }

pub returns-clause-made : goal.returns-clause-made
returns-clause-made c =
    less_made c.self.inside c.args.self.now (record { effect = Nothing; line = c.new.result; entered = c.in_ok-entered.entered })
    c.self.view_is c.requires.work c.in_ok-entered.ensures.made
    c.in_ok-entered.ensures.falls

pub returns-clause-right : goal.returns-clause-right
returns-clause-right c =
    let s = c.self.inside in
    let v = shown_node s in
    let m = c.args.moving in
    let e = c.in_ok-entered.entered in
    right_seen s c.args.self.now (record { effect = Nothing; line = c.new.result; entered = e }) c.self.view_is
    (no_line v Nothing e c.new.result c.new.ensures
    (move_goes_on v m e (s.left - 1) (subst (λ x. EndsStage x m) (sym c.self.view_is) c.requires.ends) c.requires.some
    (one_back c.self.inside.left (has_left c.self.inside c.args.self.now c.self.view_is c.requires.work))
    (subst (λ sizes. EntersMove s.session.now s.me s.at.execution m sizes (s.left - 1) e) c.as_slice.ensures
    c.in_ok-entered.ensures.right)))
