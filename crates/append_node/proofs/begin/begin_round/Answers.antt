use Rattle.std.proofs.Common.{ℕ, List, sym, ◌∙◌, ap, arith, subst}
use Rattle.fd_words.specs.Lists.{list_at}
use Rattle.chaos_letter.specs.declared.letter.Letter.{Letter}
use Rattle.chaos_letter.specs.declared.wanted.Wanted.{Wanted}
use Rattle.bsp_core.specs.Views.{Ascends, nodes_in}
use Rattle.bsp_desk.specs.Picks.{picked, picked_ascends}
use Rattle.bsp_desk.specs.Ways.{not_to_self, sends}
use Rattle.bsp_desk.specs.declared.way.Way.TheVariants.{ToAll}
use Rattle.append_node.specs.Telling.{rows_told}
use Rattle.append_node.proofs.Desks.{can_begin}
use Rattle.append_node.proofs.begin.begin_round.Goals as goal

pub returns : goal.returns
returns c =
    let me = c.args.seat.me in
    let count = c.args.seat.count in
    let f = λ (q : ℕ). rows_told c.args.round (list_at c.args.lists q) in
    let next = c.in_ok-handed.ensures.next ∙ ap (λ n. picked f (λ q. sends ToAll me q) 0 n) c.requires.count in
    record {
      can = can_begin c.args.seat _ _ _ _ c.in_ok-phase.ensures.left c.in_ok-phase.ensures.got c.in_ok-phase.ensures.room
          c.in_ok-phase.ensures.out c.in_ok-out.ensures.up c.in_ok-phase.ensures.due c.in_ok-due.ensures.up
          (subst (λ (z : List (ℕ × Letter)). Ascends me count 0 (nodes_in z)) (sym next)
          (picked_ascends f (λ q. sends ToAll me q) me count 0 count (omega arith) (not_to_self ToAll me)));
      out = c.in_ok-phase.ensures.out ∙ c.in_ok-out.ensures.is;
      due = c.in_ok-phase.ensures.due ∙ c.in_ok-due.ensures.is ∙ ap (λ (w : Wanted). picked (λ q. w) (λ q. sends ToAll q me) 0 count)
          c.sizes_wanted-wanted.ensures;
      own = c.in_ok-handed.ensures.own;
      next = next;
    }
