use Rattle.std.specs.Prelude.{◌-◌}
use Rattle.std.proofs.Common.{ap, ◌∙◌, sym, subst}
use Rattle.chaos_entering.specs.Coming.{CanStand}
use Rattle.chaos_holdings.specs.Parts.{parts_with}
use Rattle.chaos_holdings.specs.declared.effect.Effect.TheVariants.{Moves}
use Rattle.chaos_node.specs.Kept.{shown_node}
use Rattle.chaos_node.specs.Moves.{EndsStage}
use Rattle.chaos_node.specs.Printed.{one_back, still_small}
use Rattle.chaos_node.proofs.MoveOver.{move_is_over}
use Rattle.chaos_node.proofs.Seen.{has_left, less_made, look_seen, no_line, number_seen, right_seen}
use Rattle.chaos_node.proofs.node.Node.moved.Goals as goal

pub overflow_sub-self-inside : goal.overflow_sub-self-inside
overflow_sub-self-inside c = has_left c.self.inside c.args.self.now c.self.view_is c.requires.work

pub enter_next-requires-clause-left : goal.enter_next-requires-clause-left
enter_next-requires-clause-left c = still_small c.self.inside.left c.self.invariant.left

pub returns-clause-made : goal.returns-clause-made
returns-clause-made c =
    let s = c.self.inside in
    let e = c.in_ok-entered.entered in
    less_made s c.args.self.now (record {
      effect = Moves c.args.moving.share.decomposition c.finish-moved.result c.in_ok-parts.parts
          c.in_ok-records.records;
      line = c.new.result;
      entered = e;
    }) c.self.view_is c.requires.work
    (subst (λ n. CanStand n s.session.now.nodes e) (look_seen s c.args.self.now c.in_ok-elements.elements c.in_ok-parts.parts
    c.in_ok-records.records c.between_with-between.result c.self.view_is c.between_with-between.ensures.is).node
    c.in_ok-entered.ensures.made) c.in_ok-entered.ensures.falls

pub returns-clause-right : goal.returns-clause-right
returns-clause-right c =
    let s = c.self.inside in
    let v = shown_node s in
    let m = c.args.moving in
    let x = c.finish-moved.result in
    let e = c.in_ok-entered.entered in
    right_seen s c.args.self.now (record {
      effect = Moves c.args.moving.share.decomposition c.finish-moved.result c.in_ok-parts.parts
          c.in_ok-records.records;
      line = c.new.result;
      entered = e;
    }) c.self.view_is
    (no_line v (Moves c.args.moving.share.decomposition c.finish-moved.result c.in_ok-parts.parts c.in_ok-records.records) e c.new.result
    c.new.ensures
    (move_is_over v m x c.in_ok-elements.elements c.in_ok-parts.parts c.in_ok-records.records c.in_ok-pages.pages
    c.between_with-between.result c.next_number.result (s.left - 1) e
    c.notes_keep_the_past.ensures.moves c.notes_keep_the_past.ensures.few c.facts_are_known.ensures.steps
    (subst (λ x. EndsStage x m) (sym c.self.view_is) c.requires.ends) c.requires.none
    c.finish-moved.ensures c.in_ok-elements.ensures
    (c.in_ok-parts.ensures ∙ ap (λ arrays. parts_with arrays m.share.decomposition s.holdings.parts x.pieces) c.as_slice-arrays.ensures)
    c.in_ok-records.ensures.moved c.in_ok-pages.ensures
    (look_seen s c.args.self.now c.in_ok-elements.elements c.in_ok-parts.parts c.in_ok-records.records c.between_with-between.result
    c.self.view_is c.between_with-between.ensures.is)
    (number_seen s c.args.self.now c.next_number.result c.self.view_is c.next_number.ensures)
    (one_back c.self.inside.left (has_left c.self.inside c.args.self.now c.self.view_is c.requires.work))
    c.in_ok-entered.ensures.right))
