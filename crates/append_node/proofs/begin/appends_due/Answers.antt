use Rattle.std.proofs.Common.{ℕ, List, [], ◌∷◌, ◌++◌, sym, ◌∙◌, ap, arith, subst}
use Rattle.chaos_letter.specs.declared.wanted.Wanted.{Wanted}
use Rattle.bsp_core.specs.Views.{Ascends, nodes_in}
use Rattle.bsp_desk.specs.Picks.{picked_ascends, picked_else, picked_then}
use Rattle.bsp_desk.specs.Ways.{not_to_self, sends}
use Rattle.bsp_desk.specs.declared.way.Way.TheVariants.{ToAll}
use Rattle.chaos_bins.specs.Coming.{told}
use Rattle.chaos_bins.specs.Plan.{append_wanted}
use Rattle.append_node.specs.Telling.{size_in}
use Rattle.append_node.proofs.begin.appends_due.Goals as goal
use Rattle.append_node.proofs.begin.appends_due.Goals.{then-sends+in_ok-push_back, else-sends}

pub loop-q-preserved : goal.loop-q-preserved
loop-q-preserved c =
    let wanted = λ (q : ℕ). append_wanted c.args.round (size_in (told c.args.seat.me c.args.got.now q)) in
    let sent = λ (q : ℕ). sends ToAll q c.args.seat.me in
    let before = c.loop-q.due.items in
    elim c.if-sends.branch [
      | then-sends+in_ok-push_back w ↦
          picked_then wanted sent c.loop-q.q before c.if-sends.due.items c.loop-q.invariant (sym w.if-sends.ensures)
          (ap (λ z. z.items) w.due-is
          ∙ w.in_ok-push_back.ensures.items
          ∙ ap (λ (x : Wanted). before ++ (c.loop-q.q, x) ∷ []) (w.append_wanted-wanted.ensures
          ∙ ap (append_wanted c.args.round) w.size_from.ensures.is))
      | else-sends w ↦
          picked_else wanted sent c.loop-q.q before c.if-sends.due.items c.loop-q.invariant (sym w.if-sends.ensures)
          (ap (λ z. z.items) w.due-is)
    ]

pub returns-clause-up : goal.returns-clause-up
returns-clause-up c =
    let wanted = λ (q : ℕ). append_wanted c.args.round (size_in (told c.args.seat.me c.args.got.now q)) in
    subst (λ (z : List (ℕ × Wanted)). Ascends c.args.seat.me c.args.seat.count 0 (nodes_in z)) (sym c.loop-q.invariant)
    (picked_ascends wanted (λ q. sends ToAll q c.args.seat.me) c.args.seat.me c.args.seat.count 0 c.loop-q.q (omega arith)
    (not_to_self ToAll c.args.seat.me))
