use Rattle.std.proofs.Common.{◌≡◌, ℕ, List, [], sym, ◌∙◌, ap, subst}
use Rattle.chaos_letter.specs.declared.letter.Letter.{Letter}
use Rattle.chaos_letter.specs.declared.wanted.Wanted.{Wanted}
use Rattle.bsp_core.specs.Views.{Ascends, nodes_in}
use Rattle.bsp_desk.specs.Picks.{picked}
use Rattle.bsp_desk.specs.Ways.{sends}
use Rattle.bsp_desk.specs.declared.way.Way.TheVariants.{ToFirst}
use Rattle.append_node.specs.Telling.{none_first, print_told}
use Rattle.append_node.proofs.Desks.{can_begin}
use Rattle.append_node.proofs.Firsts.{first_is, first_not}
use Rattle.append_node.proofs.begin.begin_print.Goals as goal
use Rattle.append_node.proofs.begin.begin_print.Goals.{then-seat-eq0, else-seat-eq0}

pub returns : goal.returns
returns c =
    let me = c.args.seat.me in
    let count = c.args.seat.count in
    let letter = c.new-letter.result in
    let out : c.in_ok-phase.phase.out.items ≡ picked (λ q. letter) (λ q. sends ToFirst me q) 0 count =
    c.in_ok-phase.ensures.out ∙ c.in_ok-out.ensures.is in
    record {
      can = can_begin c.args.seat _ _ _ _ c.in_ok-phase.ensures.left c.in_ok-phase.ensures.got c.in_ok-phase.ensures.room
          c.in_ok-phase.ensures.out c.in_ok-out.ensures.up c.in_ok-phase.ensures.due c.in_ok-due.ensures.up
          (subst (λ (z : List (ℕ × Letter)). Ascends me count 0 (nodes_in z)) (sym c.new.ensures.items) tt);
      out = elim c.if-seat-eq0.branch [
        | then-seat-eq0 w ↦
            out ∙ none_first (λ q. letter) me count w.if-seat-eq0.true
            ∙ sym (none_first (λ q. print_told c.args.steps c.args.rows) me count w.if-seat-eq0.true)
        | else-seat-eq0 w ↦
            out
            ∙ ap (λ x. picked (λ q. x) (λ q. sends ToFirst me q) 0 count)
            (c.new-letter.ensures ∙ ap (λ x. print_told c.args.steps x.1) w.own-is)
      ];
      due = c.in_ok-phase.ensures.due ∙ c.in_ok-due.ensures.is
          ∙ ap (λ (w : Wanted). picked (λ q. w) (λ q. sends ToFirst q me) 0 count) c.print_wanted.ensures;
      own = elim c.if-seat-eq0.branch [
        | then-seat-eq0 w ↦ ap (λ x. x.0) w.own-is ∙ sym (first_is me c.args.rows [] w.if-seat-eq0.true)
        | else-seat-eq0 w ↦ ap (λ x. x.0) w.own-is ∙ c.new-none.ensures ∙ sym (first_not me c.args.rows [] w.if-seat-eq0.false)
      ];
      next = c.new.ensures.items;
    }
