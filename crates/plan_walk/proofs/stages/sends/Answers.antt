use Rattle.std.proofs.Common.{[], ◌∷◌, ◌++◌, sym, ◌∙◌, ap}
use Rattle.chaos_letter.specs.declared.letter.Letter.{Letter}
use Rattle.plan_run.specs.Phases.{is_sent}
use Rattle.plan_run.specs.Picks.{picked_then, picked_else}
use Rattle.fd_words.specs.Lists.{list_at}
use Rattle.plan_walk.specs.Letters.{letter_in}
use Rattle.plan_walk.proofs.stages.sends.Goals as goal
use Rattle.plan_walk.proofs.stages.sends.Goals.{then-sends_to+in_ok-list+in_ok-push_back, else-sends_to}

pub loop-q-preserved : goal.loop-q-preserved
loop-q-preserved c = elim c.if-sends_to.branch [
  | then-sends_to+in_ok-list+in_ok-push_back w ↦
      picked_then (λ q. letter_in c.args.naming (list_at c.args.lists.now q)) (λ q. is_sent c.args.naming.stage c.args.me q) c.loop-q.q
      c.loop-q.out.items c.if-sends_to.out.items c.loop-q.invariant
      (sym w.if-sends_to.ensures)
      (ap (λ z. z.items) w.out-is ∙ w.in_ok-push_back.ensures.items
      ∙ ap (λ (x : Letter). c.loop-q.out.items ++ (c.loop-q.q, x) ∷ []) (w.letter.ensures
      ∙ ap (letter_in c.args.naming) w.in_ok-list.ensures))
  | else-sends_to w ↦
      picked_else (λ q. letter_in c.args.naming (list_at c.args.lists.now q)) (λ q. is_sent c.args.naming.stage c.args.me q) c.loop-q.q
      c.loop-q.out.items c.if-sends_to.out.items c.loop-q.invariant
      (sym w.if-sends_to.ensures) (ap (λ z. z.items) w.out-is)
]
