use Rattle.std.proofs.Common.{ℕ, List, sym, ◌∙◌, ap, arith, subst}
use Rattle.chaos_letter.specs.declared.wanted.Wanted.{Wanted}
use Rattle.bsp_core.specs.Views.{Ascends, nodes_in}
use Rattle.bsp_desk.specs.Picks.{picked_ascends, picked_then, picked_else}
use Rattle.bsp_desk.specs.Ways.{not_to_self, sends}
use Rattle.bsp_desk.proofs.builds.due_of.Goals as goal
use Rattle.bsp_desk.proofs.builds.due_of.Goals.{then-sends+in_ok-push_back, else-sends}

pub loop-q-preserved : goal.loop-q-preserved
loop-q-preserved c =
    let sent = λ (q : ℕ). sends c.args.way q c.args.me in
    let before = c.loop-q.due.items in
    elim c.if-sends.branch [
      | then-sends+in_ok-push_back w ↦
          picked_then (λ q. c.args.wanted) sent c.loop-q.q before c.if-sends.due.items c.loop-q.invariant (sym w.if-sends.ensures)
          (ap (λ z. z.items) w.due-is ∙ w.in_ok-push_back.ensures.items)
      | else-sends w ↦
          picked_else (λ q. c.args.wanted) sent c.loop-q.q before c.if-sends.due.items c.loop-q.invariant (sym w.if-sends.ensures)
          (ap (λ z. z.items) w.due-is)
    ]

pub returns-clause-up : goal.returns-clause-up
returns-clause-up c =
    subst (λ (z : List (ℕ × Wanted)). Ascends c.args.me c.args.count 0 (nodes_in z)) (sym c.loop-q.invariant)
    (picked_ascends (λ q. c.args.wanted) (λ q. sends c.args.way q c.args.me) c.args.me c.args.count 0 c.loop-q.q (omega arith)
    (not_to_self c.args.way c.args.me))
