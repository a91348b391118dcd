use Rattle.std.proofs.Common.{[], ◌∷◌, ◌++◌, sym, ◌∙◌, ap}
use Rattle.chaos_letter.specs.declared.wanted.Wanted.{Wanted}
use Rattle.plan_run.specs.Phases.{is_sent}
use Rattle.plan_run.specs.Picks.{picked_then, picked_else}
use Rattle.plan_walk.specs.Letters.{number_in, wanted_in}
use Rattle.plan_walk.proofs.stages.takes.Goals as goal
use Rattle.plan_walk.proofs.stages.takes.Goals.{then-sends_to+in_ok-push_back, else-sends_to}

pub loop-q-preserved : goal.loop-q-preserved
loop-q-preserved c = elim c.if-sends_to.branch [
  | then-sends_to+in_ok-push_back w ↦
      picked_then (λ q. wanted_in c.args.naming (number_in c.args.counts.now q)) (λ q. is_sent c.args.naming.stage q c.args.me) c.loop-q.q
      c.loop-q.due.items c.if-sends_to.due.items c.loop-q.invariant
      (sym w.if-sends_to.ensures)
      (ap (λ z. z.items) w.due-is ∙ w.in_ok-push_back.ensures.items
      ∙ ap (λ (x : Wanted). c.loop-q.due.items ++ (c.loop-q.q, x) ∷ []) (w.wanted.ensures
      ∙ ap (wanted_in c.args.naming) w.count_for.ensures))
  | else-sends_to w ↦
      picked_else (λ q. wanted_in c.args.naming (number_in c.args.counts.now q)) (λ q. is_sent c.args.naming.stage q c.args.me) c.loop-q.q
      c.loop-q.due.items c.if-sends_to.due.items c.loop-q.invariant
      (sym w.if-sends_to.ensures) (ap (λ z. z.items) w.due-is)
]
